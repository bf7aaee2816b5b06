-- The machine reads and writes the words at the routine's addresses, and no others.
use Rattle.std.proofs.Common.{◌≡◌, ℕ, Bool, true, false, cond, ◌&&◌, ◌||◌, eqb, ltb, List, [], ◌∷◌, ◌++◌, length, is_some, Some, None, Option, sym, refl, ap, ◌∙◌, subst}
use mathlib.Core.Path.{fun_ext}
use Rattle.std.proofs.lemmas.Bool.{eq-eqb, eqb-true, or_parts, or_left, and_from, and_parts}
use Rattle.instructions.specs.declared.types.Init.{Init}
use Rattle.instructions.specs.declared.types.Instruction.{Instruction}
use Rattle.instructions.specs.declared.types.Instruction.TheVariants.{Load, Store, Exchange, Fence, Nop, Set, Add, JumpNonzero, Jump}
use Rattle.grammar.specs.Listings.{Listing, code_at, addresses_of}
use Rattle.paths.specs.Paths.{fetch}
use Rattle.memory.specs.Cells.{Cells, put, over}
use Rattle.memory.proofs.Puts.{put_held}
use Rattle.orders.specs.declared.entries.Entry.{Entry}
use Rattle.orders.specs.declared.entries.Entry.TheVariants.{Step, Drain}
use Rattle.tso.specs.Machine.{Party, State, Turn, refused, moved, depth_of, updated, in_register, onward, later, word_of, newest, operand_value, stepped, words_after, step_fault, step_at, drain_of, next, runs}
use Rattle.tso.specs.Openings.{start_of, missing, Holds, started, opening, member}
use Rattle.tso.specs.Outcomes.{after, answer_of, answers_of, after_all, within, restricted, restricted_turn, all_accepted, RunsAsAnswered, OpensAtStartingWords, TouchesHeldWords, OutcomeByNamedWords}
use Rattle.tso.specs.declared.faults.EntryFault.{EntryFault}
use Rattle.tso.specs.declared.faults.EntryFault.TheVariants.{NoParty}
use Rattle.tso.specs.declared.writes.Write.{Write}
use Rattle.tso.proofs.Addresses.{Named, fetched_named}

-- a write within the listed addresses is the write, within them
pub within-put : (ks : List ℕ) (f : Cells) (a w : ℕ) → put (within ks f) a w ≡ within ks (put f a w)
within-put ks f a w = fun_ext (λ b. go (eqb b a) (member b ks) (f b))
  where
    go : (x y : Bool) (o : Option ℕ) → cond x (over (cond y o None) w) (cond y o None) ≡ cond y (cond x (over o w) o) None
    go true true o = refl
    go true false o = refl
    go false true o = refl
    go false false o = refl

pub within_at : (ks : List ℕ) (f : Cells) (a : ℕ) → member a ks ≡ true → within ks f a ≡ f a
within_at ks f a h = rw h

module _ (ks : List ℕ) (x : Party) (m : Cells) where
  stepped_within : (i : Instruction) → Named ks i → stepped i x (within ks m) ≡ stepped i x m
  stepped_within (Load r a) h = ap (λ (o : Option ℕ). onward x (in_register x.registers r (word_of (later (newest x.buffer a) o)))) (within_at ks m a (h a (or_left (eqb a a) false (eq-eqb a a refl))))
  stepped_within (Store a s) h = refl
  stepped_within (Exchange r a) h = ap (λ (o : Option ℕ). onward x (in_register x.registers r (word_of o))) (within_at ks m a (h a (or_left (eqb a a) false (eq-eqb a a refl))))
  stepped_within Fence h = refl
  stepped_within Nop h = refl
  stepped_within (Set r s) h = refl
  stepped_within (Add r s) h = refl
  stepped_within (JumpNonzero r t) h = refl
  stepped_within (Jump t) h = refl

  words_after-within : (i : Instruction) → words_after i x (within ks m) ≡ within ks (words_after i x m)
  words_after-within (Load r a) = refl
  words_after-within (Store a s) = refl
  words_after-within (Exchange r a) = within-put ks m a (x.registers r)
  words_after-within Fence = refl
  words_after-within Nop = refl
  words_after-within (Set r s) = refl
  words_after-within (Add r s) = refl
  words_after-within (JumpNonzero r t) = refl
  words_after-within (Jump t) = refl

module _ (l : Listing) where
  step_at-restricted : (n p : ℕ) (s : State) (o : Option Instruction) → ((i : Instruction) → o ≡ Some i → Named (addresses_of l) i) → step_at n o p (restricted l s) ≡ restricted_turn l (step_at n o p s)
  step_at-restricted n p s None h = refl
  step_at-restricted n p s (Some i) h = go (step_fault n i (s.party p))
    where
      go : (o : Option EntryFault)
          → elim o [ None ↦ moved (record { party = updated s.party p (stepped i (s.party p) (within (addresses_of l) s.words)); words = words_after i (s.party p) (within (addresses_of l) s.words) }) | Some e ↦ refused e ]
          ≡ restricted_turn l (elim o [ None ↦ moved (record { party = updated s.party p (stepped i (s.party p) s.words); words = words_after i (s.party p) s.words }) | Some e ↦ refused e ])
      go None =
          ap (λ (x : Party). moved (record { party = updated s.party p x; words = words_after i (s.party p) (within (addresses_of l) s.words) })) (stepped_within (addresses_of l) (s.party p) s.words i (h i refl))
          ∙ ap (λ (m : Cells). moved (record { party = updated s.party p (stepped i (s.party p) s.words); words = m })) (words_after-within (addresses_of l) (s.party p) s.words i)
      go (Some e) = refl

  drain_of-restricted : (ws : List Write) (p : ℕ) (s : State) → drain_of ws p (restricted l s) ≡ restricted_turn l (drain_of ws p s)
  drain_of-restricted [] p s = refl
  drain_of-restricted (w ∷ ws) p s =
      ap (λ (m : Cells). moved (record { party = updated s.party p (record { position = (s.party p).position; registers = (s.party p).registers; buffer = ws }); words = m })) (within-put (addresses_of l) s.words w.address w.word)

  asked_restricted : (b : Bool) (t u : Turn) → t ≡ restricted_turn l u → cond b t (refused NoParty) ≡ restricted_turn l (cond b u (refused NoParty))
  asked_restricted true t u e = e
  asked_restricted false t u e = refl

  -- an entry comes to the same on the routine's words alone
  pub next-restricted : (e : Entry) (s : State) → next l e (restricted l s) ≡ restricted_turn l (next l e s)
  next-restricted (Step p) s =
      let o = fetch (code_at l p) (s.party p).position in
      asked_restricted (ltb p (length l.parties)) (step_at (depth_of l) o p (restricted l s)) (step_at (depth_of l) o p s) (step_at-restricted (depth_of l) p s o (fetched_named l p (s.party p).position))
  next-restricted (Drain p) s =
      let ws = (s.party p).buffer in
      asked_restricted (ltb p (length l.parties)) (drain_of ws p (restricted l s)) (drain_of ws p s) (drain_of-restricted ws p s)

  -- and so does an order
  abbrev pub restricted_end : Option State → Option State
  restricted_end None = None
  restricted_end (Some u) = Some (restricted l u)

  pub runs-restricted : (es : List Entry) (s : State) → runs l es (restricted l s) ≡ restricted_end (runs l es s)
  runs-restricted [] s = refl
  runs-restricted (e ∷ es) s = ap (λ (t : Turn). elim t [ refused n ↦ None | moved u ↦ runs l es u ]) (next-restricted e s) ∙ go (runs-restricted es) (next l e s)
    where
      go : ((u : State) → runs l es (restricted l u) ≡ restricted_end (runs l es u)) → (t : Turn)
          → elim (restricted_turn l t) [ refused n ↦ None | moved u ↦ runs l es u ] ≡ restricted_end (elim t [ refused n ↦ None | moved u ↦ runs l es u ])
      go ih (refused n) = refl
      go ih (moved u) = ih u

  pub after-restricted : (s : State) (e : Entry) → after (restricted l s) (next l e (restricted l s)) ≡ restricted l (after s (next l e s))
  after-restricted s e = ap (after (restricted l s)) (next-restricted e s) ∙ go (next l e s)
    where
      go : (t : Turn) → after (restricted l s) (restricted_turn l t) ≡ restricted l (after s t)
      go (refused n) = refl
      go (moved u) = refl

  pub answer_restricted : (s : State) (e : Entry) → answer_of (next l e (restricted l s)) ≡ answer_of (next l e s)
  answer_restricted s e = ap answer_of (next-restricted e s) ∙ go (next l e s)
    where
      go : (t : Turn) → answer_of (restricted_turn l t) ≡ answer_of t
      go (refused n) = refl
      go (moved u) = refl

  pub answers_of-restricted : (es : List Entry) (s : State) → answers_of l es (restricted l s) ≡ answers_of l es s
  answers_of-restricted [] s = refl
  answers_of-restricted (e ∷ es) s =
      let now = answer_restricted s e in
      let state = after-restricted s e in
      let rest = answers_of-restricted es (after s (next l e s)) in
      cc

  pub after_all-restricted : (es : List Entry) (s : State) → after_all l es (restricted l s) ≡ restricted l (after_all l es s)
  after_all-restricted [] s = refl
  after_all-restricted (e ∷ es) s = ap (after_all l es) (after-restricted s e) ∙ after_all-restricted es (after s (next l e s))

-- an address outside the list is not one inside it
put_other : (ks : List ℕ) (f : Cells) (b w a : ℕ) → member b ks ≡ true → member a ks ≡ false → put f b w a ≡ f a
put_other ks f b w a hb ha = go (eqb a b) refl
  where
    go : (c : Bool) → eqb a b ≡ c → cond c (over (f a) w) (f a) ≡ f a
    go true e = let q = eqb-true a b e in cc
    go false e = refl

-- openings: each of the routine's addresses has its starting word, and every other is as it was
module _ (is : List Init) where
  pub started_others : (ks : List ℕ) (f : Cells) (a : ℕ) → member a ks ≡ false → started is f ks a ≡ f a
  started_others [] f a h = refl
  started_others (k ∷ ks) f a h =
      let (apart, out) = or_parts (eqb a k) (member a ks) h in
      started_others ks (put f k (start_of is k)) a out ∙ rw apart

  held_put : (f : Cells) (k w : ℕ) (ks : List ℕ) → missing f ks ≡ None → missing (put f k w) ks ≡ None
  held_put f k w [] h = refl
  held_put f k w (j ∷ ks) h = go (held_put f k w ks) (eqb j k) (f j) h
    where
      go : (missing f ks ≡ None → missing (put f k w) ks ≡ None) → (b : Bool) (o : Option ℕ)
          → ◌≡◌ {A = Option ℕ} (elim o [ None ↦ Some j | Some v ↦ missing f ks ]) None → ◌≡◌ {A = Option ℕ} (elim (cond b (over o w) o) [ None ↦ Some j | Some v ↦ missing (put f k w) ks ]) None
      go ih b None h = cc
      go ih true (Some v) h = ih h
      go ih false (Some v) h = ih h

  -- the first address is held, and the others are
  held_first : (k : ℕ) (o : Option ℕ) (w : ℕ) (q : Option ℕ) → ◌≡◌ {A = Option ℕ} (elim o [ None ↦ Some k | Some v ↦ q ]) None → (over o w ≡ Some w) × (q ≡ None)
  held_first k None w q h = cc
  held_first k (Some v) w q h = (refl, h)

  stays : (ks : List ℕ) (f : Cells) (a : ℕ) → f a ≡ Some (start_of is a) → started is f ks a ≡ Some (start_of is a)
  stays [] f a e = e
  stays (k ∷ ks) f a e = stays ks (put f k (start_of is k)) a (go (eqb a k) refl)
    where
      go : (b : Bool) → eqb a k ≡ b → cond b (over (f a) (start_of is k)) (f a) ≡ Some (start_of is a)
      go true q = let same = eqb-true a k q in rw e (ap (λ (n : ℕ). Some (start_of is n)) (sym same))
      go false q = e

  pub started-named : (ks : List ℕ) (f : Cells) (a : ℕ) → missing f ks ≡ None → member a ks ≡ true → started is f ks a ≡ Some (start_of is a)
  started-named [] f a h m = cc
  started-named (k ∷ ks) f a h m = go (started-named ks (put f k (start_of is k)) a) (eqb a k) refl m
    where
      go : (missing (put f k (start_of is k)) ks ≡ None → member a ks ≡ true → started is (put f k (start_of is k)) ks a ≡ Some (start_of is a))
          → (b : Bool) → eqb a k ≡ b → (b || member a ks) ≡ true → started is (put f k (start_of is k)) ks a ≡ Some (start_of is a)
      go ih true q m =
          let same = eqb-true a k q in
          let first = (held_first k (f k) (start_of is k) (missing f ks) h).0 in
          stays ks (put f k (start_of is k)) a (rw (q, same) first)
      go ih false q m = ih (held_put f k (start_of is k) ks (held_first k (f k) 0 (missing f ks) h).1) m

pub opening-named : (l : Listing) (f : Cells) (a : ℕ) → Holds f l → member a (addresses_of l) ≡ true → (opening l f).words a ≡ Some (start_of l.inits a)
opening-named l f a h m = started-named l.inits (addresses_of l) f a h m

pub opening_others : (l : Listing) (f : Cells) (a : ℕ) → member a (addresses_of l) ≡ false → (opening l f).words a ≡ f a
opening_others l f a m = started_others l.inits (addresses_of l) f a m

-- on the routine's words every opening is the same
pub openings_alike : (l : Listing) (f g : Cells) → Holds f l → Holds g l → restricted l (opening l f) ≡ restricted l (opening l g)
openings_alike l f g hf hg = ap (λ (m : Cells). record { party = (opening l f).party; words = m }) (fun_ext (λ a. go a (member a (addresses_of l)) refl))
  where
    go : (a : ℕ) (b : Bool) → member a (addresses_of l) ≡ b → cond b ((opening l f).words a) None ≡ cond b ((opening l g).words a) None
    go a true m = opening-named l f a hf m ∙ sym (opening-named l g a hg m)
    go a false m = refl

-- what waits is for the routine's addresses, and so nothing else is ever written
abbrev waits_for : List ℕ → List Write → Bool
waits_for ks [] = true
waits_for ks (w ∷ ws) = member w.address ks && waits_for ks ws

waits_for_one_more : (ks : List ℕ) (ws : List Write) (w : Write) → waits_for ks ws ≡ true → member w.address ks ≡ true → waits_for ks (ws ++ (w ∷ [])) ≡ true
waits_for_one_more ks [] w h m = and_from (member w.address ks) true m refl
waits_for_one_more ks (x ∷ ws) w h m =
    let (first, rest) = and_parts (member x.address ks) (waits_for ks ws) h in
    and_from (member x.address ks) (waits_for ks (ws ++ (w ∷ []))) first (waits_for_one_more ks ws w rest m)

abbrev pub Waits : Listing → State → Type 0
Waits l s = (p : ℕ) → waits_for (addresses_of l) (s.party p).buffer ≡ true

-- the state u keeps to the routine's addresses as s does, differs from it only there, and holds the same addresses
pub record Keeps (l : Listing) (s u : State) : Type 0 where
  pub waits : Waits l u
  pub others : (a : ℕ) → member a (addresses_of l) ≡ false → u.words a ≡ s.words a
  pub held : (a : ℕ) → is_some (u.words a) ≡ is_some (s.words a)

module _ (ks : List ℕ) (x : Party) (m : Cells) where
  stepped_waits : (i : Instruction) → Named ks i → waits_for ks x.buffer ≡ true → waits_for ks (stepped i x m).buffer ≡ true
  stepped_waits (Load r a) h w = w
  stepped_waits (Store a s) h w = waits_for_one_more ks x.buffer (record { address = a; word = operand_value x.registers s }) w (h a (or_left (eqb a a) false (eq-eqb a a refl)))
  stepped_waits (Exchange r a) h w = w
  stepped_waits Fence h w = w
  stepped_waits Nop h w = w
  stepped_waits (Set r s) h w = w
  stepped_waits (Add r s) h w = w
  stepped_waits (JumpNonzero r t) h w = w
  stepped_waits (Jump t) h w = w

  words_after_others : (i : Instruction) → Named ks i → (a : ℕ) → member a ks ≡ false → words_after i x m a ≡ m a
  words_after_others (Load r b) h a out = refl
  words_after_others (Store b s) h a out = refl
  words_after_others (Exchange r b) h a out = put_other ks m b (x.registers r) a (h b (or_left (eqb b b) false (eq-eqb b b refl))) out
  words_after_others Fence h a out = refl
  words_after_others Nop h a out = refl
  words_after_others (Set r s) h a out = refl
  words_after_others (Add r s) h a out = refl
  words_after_others (JumpNonzero r t) h a out = refl
  words_after_others (Jump t) h a out = refl

  words_after_held : (i : Instruction) (a : ℕ) → is_some (words_after i x m a) ≡ is_some (m a)
  words_after_held (Load r b) a = refl
  words_after_held (Store b s) a = refl
  words_after_held (Exchange r b) a = put_held m b (x.registers r) a
  words_after_held Fence a = refl
  words_after_held Nop a = refl
  words_after_held (Set r s) a = refl
  words_after_held (Add r s) a = refl
  words_after_held (JumpNonzero r t) a = refl
  words_after_held (Jump t) a = refl

module _ (l : Listing) (s : State) (h : Waits l s) where
  same_keeps : Keeps l s s
  same_keeps = record { waits = h; others = λ a out. refl; held = λ a. refl }

  updated_waits : (p : ℕ) (x : Party) → waits_for (addresses_of l) x.buffer ≡ true → (q : ℕ) → waits_for (addresses_of l) (updated s.party p x q).buffer ≡ true
  updated_waits p x w q = elim (eqb q p) as (λ b. waits_for (addresses_of l) (cond b x (s.party q)).buffer ≡ true) [ true ↦ w | false ↦ h q ]

  step_at_keeps : (n p : ℕ) (o : Option Instruction) → ((i : Instruction) → o ≡ Some i → Named (addresses_of l) i) → Keeps l s (after s (step_at n o p s))
  step_at_keeps n p None g = same_keeps
  step_at_keeps n p (Some i) g =
      elim (step_fault n i (s.party p)) as (λ (o : Option EntryFault). Keeps l s (after s (elim o [ None ↦ moved (record { party = updated s.party p (stepped i (s.party p) s.words); words = words_after i (s.party p) s.words }) | Some e ↦ refused e ]))) [
        | None ↦ record { waits = updated_waits p (stepped i (s.party p) s.words) (stepped_waits (addresses_of l) (s.party p) s.words i (g i refl) (h p)); others = words_after_others (addresses_of l) (s.party p) s.words i (g i refl); held = words_after_held (addresses_of l) (s.party p) s.words i }
        | Some e ↦ same_keeps
      ]

  drain_of_keeps : (ws : List Write) (p : ℕ) → waits_for (addresses_of l) ws ≡ true → Keeps l s (after s (drain_of ws p s))
  drain_of_keeps [] p g = same_keeps
  drain_of_keeps (w ∷ ws) p g =
      let (first, rest) = and_parts (member w.address (addresses_of l)) (waits_for (addresses_of l) ws) g in
      record { waits = updated_waits p (record { position = (s.party p).position; registers = (s.party p).registers; buffer = ws }) rest; others = λ a out. put_other (addresses_of l) s.words w.address w.word a first out; held = put_held s.words w.address w.word }

  asked_keeps : (b : Bool) (t : Turn) → Keeps l s (after s t) → Keeps l s (after s (cond b t (refused NoParty)))
  asked_keeps true t k = k
  asked_keeps false t k = same_keeps

  pub next_keeps : (e : Entry) → Keeps l s (after s (next l e s))
  next_keeps (Step p) =
      let o = fetch (code_at l p) (s.party p).position in
      asked_keeps (ltb p (length l.parties)) (step_at (depth_of l) o p s) (step_at_keeps (depth_of l) p o (fetched_named l p (s.party p).position))
  next_keeps (Drain p) =
      let ws = (s.party p).buffer in
      asked_keeps (ltb p (length l.parties)) (drain_of ws p s) (drain_of_keeps ws p (h p))

pub after_all_keeps : (l : Listing) (es : List Entry) (s : State) → Waits l s → Keeps l s (after_all l es s)
after_all_keeps l [] s h = same_keeps l s h
after_all_keeps l (e ∷ es) s h =
    let first = next_keeps l s h e in
    let rest = after_all_keeps l es (after s (next l e s)) first.waits in
    record { waits = rest.waits; others = λ a out. rest.others a out ∙ first.others a out; held = λ a. rest.held a ∙ first.held a }

pub outcome_by_named_words : OutcomeByNamedWords
outcome_by_named_words l f g es hf hg =
    record {
      answers = sym (answers_of-restricted l es (opening l f)) ∙ ap (answers_of l es) same ∙ answers_of-restricted l es (opening l g);
      acceptance = ended (opening l f) ∙ ap (λ (s : State). is_some (runs l es s)) same ∙ sym (ended (opening l g));
      parties = λ p. ap (λ (s : State). s.party p) ends;
      named = λ a m. sym (within_at (addresses_of l) (after_all l es (opening l f)).words a m) ∙ ap (λ (s : State). s.words a) ends ∙ within_at (addresses_of l) (after_all l es (opening l g)).words a m;
      others_in_f = λ a out. (after_all_keeps l es (opening l f) (λ p. refl)).others a out ∙ opening_others l f a out;
      others_in_g = λ a out. (after_all_keeps l es (opening l g) (λ p. refl)).others a out ∙ opening_others l g a out;
    }
  where
    same : restricted l (opening l f) ≡ restricted l (opening l g)
    same = openings_alike l f g hf hg

    ends : restricted l (after_all l es (opening l f)) ≡ restricted l (after_all l es (opening l g))
    ends = sym (after_all-restricted l es (opening l f)) ∙ ap (after_all l es) same ∙ after_all-restricted l es (opening l g)

    some_end : (o : Option State) → is_some o ≡ is_some (restricted_end l o)
    some_end None = refl
    some_end (Some u) = refl

    ended : (s : State) → is_some (runs l es s) ≡ is_some (runs l es (restricted l s))
    ended s = some_end (runs l es s) ∙ ap is_some (sym (runs-restricted l es s))

pub opens_at_starting_words : OpensAtStartingWords
opens_at_starting_words l f a h = record { named = opening-named l f a h; others = opening_others l f a }

pub runs_as_answered : RunsAsAnswered
runs_as_answered l [] s = refl
runs_as_answered l (e ∷ es) s = go (runs_as_answered l es) (next l e s)
  where
    go : ((u : State) → runs l es u ≡ cond (all_accepted (answers_of l es u)) (Some (after_all l es u)) None) → (t : Turn)
        → elim t [ refused n ↦ None | moved u ↦ runs l es u ] ≡ cond (all_accepted (answer_of t ∷ answers_of l es (after s t))) (Some (after_all l es (after s t))) None
    go ih (refused n) = refl
    go ih (moved u) = ih u

waits_for_each : (ks : List ℕ) (older newer : List Write) (w : Write) → waits_for ks (older ++ (w ∷ newer)) ≡ true → member w.address ks ≡ true
waits_for_each ks [] newer w h = (and_parts (member w.address ks) (waits_for ks newer) h).0
waits_for_each ks (x ∷ older) newer w h = waits_for_each ks older newer w (and_parts (member x.address ks) (waits_for ks (older ++ (w ∷ newer))) h).1

pub touches_held_words : TouchesHeldWords
touches_held_words l f es h =
    record {
      named = λ a m. kept.held a ∙ ap is_some (opening-named l f a h m);
      waiting = λ p older newer w e. waits_for_each (addresses_of l) older newer w (subst (λ (ws : List Write). waits_for (addresses_of l) ws ≡ true) e (kept.waits p));
    }
  where
    kept : Keeps l (opening l f) (after_all l es (opening l f))
    kept = after_all_keeps l es (opening l f) (λ p. refl)
