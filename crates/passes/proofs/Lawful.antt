-- The positions of a lawful party.
use Rattle.std.proofs.Common.{◌≡◌, ℕ, ◌<◌, ◌≤◌, true, length, get_or, Some, subst, inl, inr, arith, leb-true}
use Rattle.std.proofs.lemmas.Bool.{and_parts}
use Rattle.instructions.specs.declared.types.Instruction.{Instruction}
use Rattle.instructions.specs.declared.types.Instruction.TheVariants.{Load, Store, Exchange, Fence, Nop, Set, Add, JumpNonzero, Jump}
use Rattle.grammar.specs.Listings.{target_within, targets_within, party_lawful}
use Rattle.paths.specs.Paths.{Code, fetch, Follows}
use Rattle.paths.proofs.Fetches.{fetch_at, fetch_below}
use Rattle.std.proofs.lemmas.List.Sums.{AllPass-from_list_all}

target_at : (n : ℕ) (c : Code) (k : ℕ) (i : Instruction) → targets_within n c ≡ true → fetch c k ≡ Some i → target_within n i ≡ true
target_at n c k i e f =
    let low = fetch_below c k i f in
    let stands = fetch_at c k i low in
    let is : get_or c k i ≡ i = cc in
    subst (λ j. target_within n j ≡ true) is (AllPass-from_list_all (target_within n) c e k i low)

target_follows : (n k j : ℕ) (i : Instruction) → k < n → target_within n i ≡ true → Follows i k j → j ≤ n
target_follows n k j (Load r a) h e f = omega arith
target_follows n k j (Store a s) h e f = omega arith
target_follows n k j (Exchange r a) h e f = omega arith
target_follows n k j Fence h e f = omega arith
target_follows n k j Nop h e f = omega arith
target_follows n k j (Set r s) h e f = omega arith
target_follows n k j (Add r s) h e f = omega arith
target_follows n k j (JumpNonzero r t) h e (inl f) = omega (arith, leb-true t n e)
target_follows n k j (JumpNonzero r t) h e (inr f) = omega arith
target_follows n k j (Jump t) h e f = omega (arith, leb-true t n e)

pub lawful_long : (c : Code) → party_lawful c ≡ true → length c ≤ 32
lawful_long c e = leb-true (length c) 32 (and_parts _ _ (and_parts _ _ e).1).0

-- no position that follows is past the end
pub lawful_within : (c : Code) (k j : ℕ) (i : Instruction) → party_lawful c ≡ true → fetch c k ≡ Some i → Follows i k j → j ≤ 32
lawful_within c k j i e f g =
    omega (arith, lawful_long c e, target_follows (length c) k j i (fetch_below c k i f) (target_at (length c) c k i (and_parts _ _ (and_parts _ _ e).1).1 f) g)
