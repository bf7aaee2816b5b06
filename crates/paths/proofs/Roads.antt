-- The rules by lists of positions are the rules by Dirty and Exposed.
use Rattle.std.proofs.Common.{◌≡◌, ℕ, suc, ◌⊎◌, ◌↔◌, List, [], ◌∷◌, ◌++◌, Some, refl, ap, subst, inl, inr, append_assoc}
use Rattle.instructions.specs.declared.types.Instruction.{Instruction}
use Rattle.instructions.specs.declared.types.Instruction.TheVariants.{Store}
use Rattle.paths.specs.Paths.{Code, fetch, Follows, Barrier, Road, StoreAt, BarrierAt, Among}
use Rattle.paths.specs.Rules.{Shielded, Screened}
use Rattle.paths.specs.Marks.{Walk, Bare, Dirty, Exposed}
use Rattle.paths.proofs.Standing.{barrier?, at?, store_at?}

among? : (P : ℕ → Type 0) → ((k : ℕ) → Dec (P k)) → (ks : List ℕ) → Dec (Among P ks)
among? P d [] = no (λ x. x)
among? P d (k ∷ ks) = go (d k) (among? P d ks)
  where
    go : Dec (P k) → Dec (Among P ks) → Dec (P k ⊎ Among P ks)
    go (yes a) b = yes (inl a)
    go (no a) (yes b) = yes (inr b)
    go (no a) (no b) = no (λ x. elim x [ inl y ↦ a y | inr y ↦ b y ])

among_right : (P : ℕ → Type 0) (xs ys : List ℕ) → Among P ys → Among P (xs ++ ys)
among_right P [] ys h = h
among_right P (x ∷ xs) ys h = inr (among_right P xs ys h)

-- ks cut at its last position of which P holds
record Last (P : ℕ → Type 0) (ks : List ℕ) : Type 0 where
  us : List ℕ
  b : ℕ
  vs : List ℕ
  all : ks ≡ us ++ (b ∷ vs)
  is : P b
  none_after : ¬ Among P vs

last : (P : ℕ → Type 0) → ((k : ℕ) → Dec (P k)) → (ks : List ℕ) → Among P ks → Last P ks
last P d [] h = absurd h
last P d (k ∷ ks) h = go (last P d ks) (among? P d ks) h
  where
    go : (Among P ks → Last P ks) → Dec (Among P ks) → P k ⊎ Among P ks → Last P (k ∷ ks)
    go ih (yes s) _ = let l = ih s in record { us = k ∷ l.us; b = l.b; vs = l.vs; all = ap {B = List ℕ} (λ x. k ∷ x) l.all; is = l.is; none_after = l.none_after }
    go ih (no n) (inl p) = record { us = []; b = k; vs = ks; all = refl; is = p; none_after = n }
    go ih (no n) (inr s) = absurd (n s)

road_join : {c : Code} {k j l : ℕ} {xs : List ℕ} (ys : List ℕ) → Road c k xs j → Road c j ys l → Road c k (xs ++ ys) l
road_join ys Road.here s = s
road_join ys (Road.step i f g r) s = Road.step i f g (road_join ys r s)

walk_road : {c : Code} {k l : ℕ} → Walk c k l → (ks : List ℕ) × Road c k ks l
walk_road Walk.here = ([], Road.here)
walk_road (Walk.step {k = k} i f g r) = let x = walk_road r in (k ∷ x.0, Road.step i f g x.1)

bare_road : {c : Code} {k l : ℕ} → Bare c k l → (ks : List ℕ) × Road c k ks l × (¬ Among (BarrierAt c) ks)
bare_road Bare.here = ([], Road.here, λ x. x)
bare_road {c} (Bare.step {k = k} i f n g r) =
    let x = bare_road r in
    (k ∷ x.0, Road.step i f g x.1, λ y. elim y [ inl z ↦ let w = z.1 in let e : z.0 ≡ i = cc in n (rw e at z.2) | inr z ↦ x.2 z ])

road_bare : {c : Code} {k l : ℕ} {ks : List ℕ} → Road c k ks l → ¬ Among (BarrierAt c) ks → Bare c k l
road_bare Road.here n = Bare.here
road_bare (Road.step i f g r) n = Bare.step i f (λ b. n (inl (i, f, b))) g (road_bare r (λ x. n (inr x)))

-- a path cut where it passes a
record Split (c : Code) (k a : ℕ) (ys : List ℕ) (l : ℕ) : Type 0 where
  to : Walk c k a
  i : Instruction
  at : fetch c a ≡ Some i
  j : ℕ
  on : Follows i a j
  after : Road c j ys l

road_split : (c : Code) (k : ℕ) (xs : List ℕ) (a : ℕ) (ys : List ℕ) (l : ℕ) → Road c k (xs ++ (a ∷ ys)) l → Split c k a ys l
road_split c k [] a ys l (Road.step i f g r) = record { to = Walk.here; i = i; at = f; j = _; on = g; after = r }
road_split c k (x ∷ xs) a ys l (Road.step {j = j} i f g r) =
    let s = road_split c j xs a ys l r in
    record { to = Walk.step i f g s.to; i = s.i; at = s.at; j = s.j; on = s.on; after = s.after }

shielded_clean : (c : Code) (k : ℕ) → Shielded c k → ¬ Dirty c k
shielded_clean c k h d = go (among? (StoreAt c) (store_at? c) b.0)
  where
    a : (ks : List ℕ) × Road c 0 ks d.from
    a = walk_road d.reach

    b : (ks : List ℕ) × Road c (suc d.from) ks k × (¬ Among (BarrierAt c) ks)
    b = bare_road d.clear

    r : Road c 0 (a.0 ++ (d.from ∷ b.0)) k
    r = road_join (d.from ∷ b.0) a.1 (Road.step (Store d.address d.source) d.store refl b.1)

    go : Dec (Among (StoreAt c) b.0) → ⊥
    go (no n) = b.2 (h a.0 b.0 d.from r (d.address, d.source, d.store) n)
    go (yes s) =
        let l = last (StoreAt c) (store_at? c) b.0 s in
        let e : a.0 ++ (d.from ∷ b.0) ≡ (a.0 ++ (d.from ∷ l.us)) ++ (l.b ∷ l.vs) = cc (l.all, append_assoc a.0 (d.from ∷ l.us) (l.b ∷ l.vs)) in
        let x : Among (BarrierAt c) l.vs = h (a.0 ++ (d.from ∷ l.us)) l.vs l.b (rw e at r) l.is l.none_after in
        b.2 (rw l.all (among_right (BarrierAt c) l.us (l.b ∷ l.vs) (inr x)))

clean_shielded : (c : Code) (k : ℕ) → ¬ Dirty c k → Shielded c k
clean_shielded c k n xs ys a r s z = go (among? (BarrierAt c) (at? c Barrier barrier?) ys)
  where
    x : Split c 0 a ys k
    x = road_split c 0 xs a ys k r

    j_is : x.j ≡ suc a
    j_is = let p = x.at in let q = s.2 in let e : x.i ≡ Store s.0 s.1 = cc in subst (λ (i : Instruction). Follows i a x.j) e x.on

    go : Dec (Among (BarrierAt c) ys) → Among (BarrierAt c) ys
    go (yes b) = b
    go (no b) = absurd (n (record { from = a; address = s.0; source = s.1; reach = x.to; store = s.2; clear = rw j_is at (road_bare x.after b) }))

screened_hidden : (c : Code) (k : ℕ) → Screened c k → ¬ Exposed c k
screened_hidden c k h e = let x = bare_road e.clear in x.2 (h x.0 e.last x.1 e.shows)

hidden_screened : (c : Code) (k : ℕ) → ¬ Exposed c k → Screened c k
hidden_screened c k n ks l r s = go (among? (BarrierAt c) (at? c Barrier barrier?) ks)
  where
    go : Dec (Among (BarrierAt c) ks) → Among (BarrierAt c) ks
    go (yes b) = b
    go (no b) = absurd (n (record { last = l; clear = road_bare r b; shows = s }))

pub shielded_is : (c : Code) (k : ℕ) → Shielded c k ↔ (¬ Dirty c k)
shielded_is c k = (shielded_clean c k, clean_shielded c k)

pub screened_is : (c : Code) (k : ℕ) → Screened c k ↔ (¬ Exposed c k)
screened_is c k = (screened_hidden c k, hidden_screened c k)
