-- Thinning keeps the limits and the addresses.
use Rattle.std.proofs.Common.{◌≡◌, ℕ, zero, suc, ◌<◌, Bool, true, false, ◌&&◌, ltb, leb, List, [], ◌∷◌, map, length, get_or, set, sym, refl, ap, ◌∙◌}
use Rattle.std.proofs.lemmas.List.{length-set, map-set, get_or-map}
use Rattle.instructions.specs.Thinning.{unless, thin_from}
use Rattle.instructions.specs.declared.types.Instruction.{Instruction}
use Rattle.instructions.specs.declared.types.Instruction.TheVariants.{Load, Store, Exchange, Fence, Nop, Set, Add, JumpNonzero, Jump}
use Rattle.grammar.specs.Listings.{Listing, fewest_parties, target_within, targets_within, party_lawful, parties_lawful, instruction_fits, code_fits, inits_fit, parties_fit, rising, address_in, noted_in, noted_inits, noted_code, noted_parties, addresses_of, lawful}
use Rattle.routine.specs.Addresses.{noted_list}
use Rattle.routine.specs.Parties.{code_of}
use Rattle.routine.specs.Storages.{listing_of, IsComplete}
use Rattle.routine.specs.Thins.{thinned_at}
use Rattle.routine.specs.declared.party.Party.{Party}
use Rattle.routine.specs.declared.storage.Storage.{Storage}

-- what is the same of MFENCE and NOP is the same of an instruction as of what it becomes
unless_same : {A : Type 0} (F : Instruction → A) → F Nop ≡ F Fence → (b : Bool) (i : Instruction) → F (unless b i) ≡ F i
unless_same F e true i = refl
unless_same F e false (Load r a) = refl
unless_same F e false (Store a s) = refl
unless_same F e false (Exchange r a) = refl
unless_same F e false Fence = e
unless_same F e false Nop = refl
unless_same F e false (Set r s) = refl
unless_same F e false (Add r s) = refl
unless_same F e false (JumpNonzero r t) = refl
unless_same F e false (Jump t) = refl

module _ (m : ℕ → Bool) where
  thin_length : (n : ℕ) (is : List Instruction) → length (thin_from m n is) ≡ length is
  thin_length n [] = refl
  thin_length n (i ∷ is) = ap suc (thin_length (suc n) is)

  thin_targets : (end n : ℕ) (is : List Instruction) → targets_within end (thin_from m n is) ≡ targets_within end is
  thin_targets end n [] = refl
  thin_targets end n (i ∷ is) = λ j. unless_same (target_within end) refl (m n) i j && thin_targets end (suc n) is j

  thin_fits : (n : ℕ) (is : List Instruction) → code_fits (thin_from m n is) ≡ code_fits is
  thin_fits n [] = refl
  thin_fits n (i ∷ is) = λ j. unless_same instruction_fits refl (m n) i j && thin_fits (suc n) is j

  thin_noted : (n : ℕ) (is : List Instruction) (seen : List ℕ) → noted_code (thin_from m n is) seen ≡ noted_code is seen
  thin_noted n [] seen = refl
  thin_noted n (i ∷ is) seen = thin_noted (suc n) is (noted_in (address_in (unless (m n) i)) seen) ∙ ap (λ more. noted_code is (noted_in more seen)) (unless_same address_in refl (m n) i)

  thin_party : (n : ℕ) (is : List Instruction) → party_lawful (thin_from m n is) ≡ party_lawful is
  thin_party n is =
      let long = thin_length n is in
      let within : targets_within (length (thin_from m n is)) (thin_from m n is) ≡ targets_within (length is) is = ap (λ end. targets_within end (thin_from m n is)) long ∙ thin_targets (length is) n is in
      λ j. ltb 0 (long j) && (leb (long j) 32 && within j)

-- a fold over a list does not see an element that is the same to it
set_same : {X A B : Type 0} (F : List X → B) (G : A → B → B) (f : X → A) → ((x : X) (xs : List X) → F (x ∷ xs) ≡ G (f x) (F xs)) → (xs : List X) (p : ℕ) (d y : X) → f y ≡ f (get_or xs p d) → F (set xs p y) ≡ F xs
set_same F G f step [] p d y e = refl
set_same F G f step (x ∷ xs) zero d y e = step y xs ∙ ap (λ a. G a (F xs)) e ∙ sym (step x xs)
set_same F G f step (x ∷ xs) (suc p) d y e = step x (set xs p y) ∙ ap (G (f x)) (set_same F G f step xs p d y e) ∙ sym (step x xs)

module _ (p : ℕ) (m : ℕ → Bool) (l : Listing) where
  thin_parties_noted : noted_parties (thinned_at p m l).parties ≡ noted_parties l.parties
  thin_parties_noted = set_same {A = List ℕ → List ℕ} noted_parties (λ a b seen. b (a seen)) noted_code (λ _ _. refl) l.parties p [] _ (λ j seen. thin_noted m 0 (get_or l.parties p []) seen j)

  thin_addresses : addresses_of (thinned_at p m l) ≡ addresses_of l
  thin_addresses = λ j. thin_parties_noted j (noted_inits l.inits [])

  thin_lawful : lawful (thinned_at p m l) ≡ lawful l
  thin_lawful =
      let count : length (thinned_at p m l).parties ≡ length l.parties = length-set l.parties p _ in
      let law : parties_lawful (thinned_at p m l).parties ≡ parties_lawful l.parties = set_same parties_lawful ◌&&◌ party_lawful (λ _ _. refl) l.parties p [] _ (thin_party m 0 (get_or l.parties p [])) in
      let fit : parties_fit (thinned_at p m l).parties ≡ parties_fit l.parties = set_same parties_fit ◌&&◌ code_fits (λ _ _. refl) l.parties p [] _ (thin_fits m 0 (get_or l.parties p [])) in
      λ j. (leb fewest_parties (count j) && leb (count j) 4) && (law j && ((leb (length l.inits) 16 && rising l.inits) && ((inits_fit l.inits && fit j) && leb (length (thin_addresses j)) 32)))

-- one party is thinned in its place
pub thinned_parties : (m : ℕ → Bool) (ps : List Party) (p : ℕ) (x y : Party) → p < length ps → x ≡ get_or ps p x → code_of y ≡ thin_from m 0 (code_of x) → map code_of (set ps p y) ≡ set (map code_of ps) p (thin_from m 0 (get_or (map code_of ps) p []))
thinned_parties m ps p x y within read thin =
    let here : get_or (map code_of ps) p [] ≡ code_of x = get_or-map code_of ps p x [] within ∙ ap code_of (sym read) in
    map-set code_of ps p y ∙ ap (set (map code_of ps) p) (thin ∙ ap (thin_from m 0) (sym here))

-- storage stays complete where a party of its routine is thinned
pub thinned_complete : (p : ℕ) (m : ℕ → Bool) (s t : Storage) → listing_of t ≡ thinned_at p m (listing_of s) → t.addresses ≡ s.addresses → IsComplete s → IsComplete t
thinned_complete p m s t new same complete = record {
  within_limits = ap lawful new ∙ thin_lawful p m (listing_of s) ∙ complete.within_limits;
  knows_addresses = ap noted_list same ∙ complete.knows_addresses ∙ sym (ap addresses_of new ∙ thin_addresses p m (listing_of s));
}
