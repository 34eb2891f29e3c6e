-- What a request comes to at the gate, and what is known behind it. Assumes nothing.
use Rattle.std.specs.Prelude.{ℕ, ◌≤◌, ◌≡◌, Bool, not, List, ltb, length, Err, Ok}
use Rattle.std.proofs.Math.Path.{refl, ap}
use Rattle.std.proofs.Common.{sym, ◌∙◌, arith}
use Rattle.std.proofs.Math.Bool.{true, false}
use Rattle.std.proofs.Math.Option.{none}
use borrow.Author.Tests.{ltb-true, ltb-false}
use Rattle.combine.specs.Laws.Below.{not-both}
use Rattle.combine.specs.Verdict.{refused, on_done}
use Rattle.combine.specs.Outcome.{outcome_of, settle}
use Rattle.answers.specs.declared.Refusal.{Refusal}
use Rattle.answers.specs.declared.Refusal.TheVariants.{User, Entry, Tables}
use Rattle.answers.specs.Said.{refusal_number}
use Rattle.placing.specs.Sizes.{greatest_user, greatest_entry, entry_of}
use Rattle.rules.specs.Calls.{Request, opens, closes, abandons, uses}
use Rattle.rules.specs.Effects.{Effect}
use Rattle.rules.specs.Levels.{ruled}
use Rattle.segments.specs.Deeds.{segment_level}
use Rattle.tables.specs.Layout.{opening_at}
use Rattle.tables.specs.Fields.{is_open}
use Rattle.tables.specs.Sound.{soundb}
use Rattle.cells.specs.Says.{house_of}
use Rattle.cells.specs.Outcomes.{Lent, lent, outcome, sound_lent, request_out}
use Rattle.cells.specs.Laws.Entered.{unsound-out, user-out, entry-out, request-closed}
use Rattle.gate.specs.Gates.{Gate, refusing, pass_of, opened, reach_of}

-- the requests that need an open entry
abbrev pub needs_open : Request → Bool
needs_open (opens w) = false
needs_open (closes public) = true
needs_open abandons = true
needs_open (uses a) = true

-- the tables t are sound beside so many cells, the user and the entry are there, and i is the entry's number of 32
pub record Passed (cells : ℕ) (t : List ℕ) (u e i : ℕ) : Type 0 where
  pub sound : soundb cells t ≡ true
  pub user : u ≤ greatest_user
  pub entry : e ≤ greatest_entry
  pub which : i ≡ entry_of u e

pub record Reached (cells : ℕ) (t : List ℕ) (u e i : ℕ) : Type 0 where
  pub passed : Passed cells t u e i
  pub there : is_open (opening_at t i) ≡ true

not-at : (i : ℕ) (why : Refusal) → Err why ≡ Ok i → ⊥
not-at i why p = let z : ◌≡◌ {A = ℕ} 0 1 = cc in omega arith

-- ---- behind the gate

module _ (cells : ℕ) (t : List ℕ) (u e i : ℕ) where
  passed_here : (a b c : Bool) → soundb cells t ≡ a → ltb greatest_user u ≡ b → ltb greatest_entry e ≡ c
      → refusing (not a) Tables (refusing b User (refusing c Entry (Ok (entry_of u e)))) ≡ Ok i → Passed cells t u e i
  unfolding refusing
  passed_here false b c p q k h = absurd (not-at i Tables h)
  passed_here true true c p q k h = absurd (not-at i User h)
  passed_here true false true p q k h = absurd (not-at i Entry h)
  passed_here true false false p q k h =
      record { sound = p; user = ltb-false greatest_user u q; entry = ltb-false greatest_entry e k; which = let z : i ≡ entry_of u e = cc in z }

  pub pass-at : pass_of cells t u e ≡ Ok i → Passed cells t u e i
  unfolding pass_of
  pass-at h = passed_here (soundb cells t) (ltb greatest_user u) (ltb greatest_entry e) refl refl refl h

  open_at : (j : ℕ) (b : Bool) → is_open (opening_at t j) ≡ b → refusing (not b) Entry (Ok j) ≡ Ok i → (◌≡◌ {A = Gate} (Ok j) (Ok i)) × (is_open (opening_at t i) ≡ true)
  unfolding refusing
  open_at j true p q = let z : j ≡ i = cc in (q, ap (λ (k : ℕ). is_open (opening_at t k)) (sym z) ∙ p)
  open_at j false p q = absurd (not-at i Entry q)

  opened-at : (g : Gate) → opened t g ≡ Ok i → (g ≡ Ok i) × (is_open (opening_at t i) ≡ true)
  opened-at (Err why) h = absurd (not-at i why h)
  opened-at (Ok j) h = open_at j (is_open (opening_at t j)) refl h

  pub reach-at : reach_of cells t u e ≡ Ok i → Reached cells t u e i
  unfolding reach_of
  reach-at h =
      let o = opened-at (pass_of cells t u e) h in
      record { passed = pass-at o.0; there = o.1 }

-- ---- refused at the gate

module _ (r : Request) (s t : List ℕ) (u e : ℕ) where
  abbrev RefusedBy : Refusal → Type 0
  RefusedBy why = request_out r s t u e ≡ outcome_of (refused (refusal_number why)) (lent s t)

  module _ (why : Refusal) where
    said : (y : Refusal) → RefusedBy y → ◌≡◌ {A = Gate} (Err y) (Err why) → RefusedBy why
    said y h p = let q : y ≡ why = cc in h ∙ ap (λ (x : Refusal). outcome_of (refused (refusal_number x)) (lent s t)) q

    refused-here : (a b c : Bool) → sound_lent s t ≡ a → ltb greatest_user u ≡ b → ltb greatest_entry e ≡ c
        → refusing (not a) Tables (refusing b User (refusing c Entry (Ok (entry_of u e)))) ≡ Err why → RefusedBy why
    unfolding refusing
    refused-here false b c p q k h = said Tables (unsound-out r s t u e p) h
    refused-here true true c p q k h = said User (user-out r s t u e p (ltb-true greatest_user u q)) h
    refused-here true false true p q k h = said Entry (entry-out r s t u e p (ltb-false greatest_user u q) (ltb-true greatest_entry e k)) h
    refused-here true false false p q k h = absurd (not-at (entry_of u e) why (sym h))

    pub pass-no : pass_of (length s) t u e ≡ Err why → request_out r s t u e ≡ outcome_of (refused (refusal_number why)) (lent s t)
    unfolding pass_of
    pass-no h = refused-here (sound_lent s t) (ltb greatest_user u) (ltb greatest_entry e) refl refl refl h

  -- an entry that is not open
  closed-out : needs_open r ≡ true → (f : Effect → ℕ × Lent) → settle (lent s t) (on_done f (ruled (segment_level s) r u (house_of t) none)) ≡ outcome_of (refused 2) (lent s t)
  unfolding settle
  closed-out n f = settled r n
    where
      settled : (q : Request) → needs_open q ≡ true → settle (lent s t) (on_done f (ruled (segment_level s) q u (house_of t) none)) ≡ outcome_of (refused 2) (lent s t)
      settled (opens w) m = absurd (not-both m refl)
      settled (closes public) m = refl
      settled abandons m = refl
      settled (uses a) m = refl

  module _ (n : needs_open r ≡ true) (why : Refusal) where
    closed-here : (i : ℕ) (b : Bool) → is_open (opening_at t i) ≡ b → Passed (length s) t u e i → refusing (not b) Entry (Ok i) ≡ Err why → RefusedBy why
    unfolding refusing
    closed-here i true p g h = absurd (not-at i why (sym h))
    closed-here i false p g h =
        let c : is_open (opening_at t (entry_of u e)) ≡ false = ap (λ (k : ℕ). is_open (opening_at t k)) (sym g.which) ∙ p in
        said why Entry (request-closed s t u e g.sound g.user g.entry r c ∙ closed-out n _) h

    opened-no : (g : Gate) → pass_of (length s) t u e ≡ g → opened t g ≡ Err why → RefusedBy why
    opened-no (Err y) p h = said why y (pass-no y p) h
    opened-no (Ok i) p h = closed-here i (is_open (opening_at t i)) refl (pass-at (length s) t u e i p) h

    pub reach-no : reach_of (length s) t u e ≡ Err why → request_out r s t u e ≡ outcome_of (refused (refusal_number why)) (lent s t)
    unfolding reach_of
    reach-no h = opened-no (pass_of (length s) t u e) refl h

-- ---- the same, of a gate that the code has in hand

module _ (s t : List ℕ) (u e : ℕ) (g : Gate) where
  module _ (eg : g ≡ pass_of (length s) t u e) where
    pub passes : (i : ℕ) → g ≡ Ok i → Passed (length s) t u e i
    passes i at = pass-at (length s) t u e i (sym eg ∙ at)

    pub passes-not : (r : Request) (why : Refusal) → g ≡ Err why → outcome (Err why) s t ≡ request_out r s t u e
    passes-not r why at = sym (pass-no r s t u e why (sym eg ∙ at))

  module _ (eg : g ≡ reach_of (length s) t u e) where
    pub reaches : (i : ℕ) → g ≡ Ok i → Reached (length s) t u e i
    reaches i at = reach-at (length s) t u e i (sym eg ∙ at)

    pub reaches-not : (r : Request) → needs_open r ≡ true → (why : Refusal) → g ≡ Err why → outcome (Err why) s t ≡ request_out r s t u e
    reaches-not r n why at = sym (reach-no r s t u e n why (sym eg ∙ at))
