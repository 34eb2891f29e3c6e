-- An inquiry is refused at the gate, or answered: as the code's steps give the premises. Assumes nothing.
use Rattle.std.specs.Prelude.{Err, Ok}
use Prim.Native.Nat.{ℕ, ◌+◌, ◌≤◌, ◌<◌}
use mathlib.Core.Path.{◌≡◌, refl, sym, ap, subst₃, ◌∙◌}
use mathlib.Core.Bool.{Bool, true, false}
use mathlib.Core.List.{List}
use native.Mathlib.Omega.{arith}
use lib.Dec.{eqb}
use lib.ListN.{length}
use Rattle.answers.specs.declared.Refusal.{Refusal}
use Rattle.answers.specs.declared.Refusal.TheVariants.{Pointer}
use Rattle.answers.specs.Said.{Answer}
use Rattle.placing.specs.declared.Position.{Position}
use Rattle.placing.specs.Sizes.{entries, tables_length, greatest_species, greatest_end, most_held}
use Rattle.placing.specs.Placing.{held_of, claim_of}
use Rattle.placing.specs.Laws.Tests.{none_so, none-not}
use Rattle.rules.specs.Calls.{Act, uses, ask_species, ask_claim, ask_permit, ask_symbol, ask_begin, ask_end, ask_value}
use Rattle.tables.specs.Layout.{opening_at}
use Rattle.tables.specs.Laws.Pointers.{value_in}
use Rattle.tables.specs.Laws.ExtentFacts.{SoundExtent}
use Rattle.cells.specs.Outcomes.{outcome, request_out}
use Rattle.cells.specs.Laws.Uses.{leaves_content}
use Rattle.gate.specs.Gates.{Gate, reach_of}
use Rattle.gate.specs.Passed.{Reached, reach-at, reaches, reaches-not}
use Rattle.gate_laws.specs.Behind.{passed-long, passed-few, reached-sound}
use Rattle.call_ask.specs.Told.{field_at, told}
use Rattle.call_ask.proofs.Fields.{species-cell, value_cell, value-beyond}
use Rattle.call_ask.proofs.Asked.{Asks, answered, answered-not, asks-number, asks-species, asks-permit, asks-begin, asks-end, asks-claim, asks-no-symbol, asks-symbol, asks-no-value, asks-value}

module _ (cells : ℕ) (t : List ℕ) (u e : ℕ) (g : Gate) (eg : g ≡ reach_of cells t u e) where
  pub tell_no : (number : ℕ) (why : Refusal) → g ≡ Err why → Err why ≡ told t number (reach_of cells t u e)
  unfolding told
  tell_no number why at = sym (ap (told t number) (sym eg ∙ at))

  pub long-behind : (i : ℕ) → g ≡ Ok i → length t ≡ tables_length
  long-behind i at = passed-long (reach-at cells t u e i (sym eg ∙ at)).passed

  pub entry-behind : (i : ℕ) → g ≡ Ok i → i < entries
  entry-behind i at = passed-few (reach-at cells t u e i (sym eg ∙ at)).passed

  pub tell-at : (number i n : ℕ) → g ≡ Ok i → n ≡ field_at t i number → Ok n ≡ told t number (reach_of cells t u e)
  unfolding told
  tell-at number i n at q = ap Ok q ∙ sym (ap (told t number) (sym eg ∙ at))

module _ (s t : List ℕ) (u e : ℕ) where
  tells : (act : Act) (number : ℕ) → leaves_content act ≡ true → ((i : ℕ) (here : Reached (length s) t u e i) → Asks s t u e i here act (field_at t i number))
      → (g : Gate) → g ≡ reach_of (length s) t u e → outcome (told t number g) s t ≡ request_out (uses act) s t u e
  unfolding told
  tells act number q h (Err why) eg = reaches-not s t u e (Err why) eg (uses act) refl why refl
  tells act number q h (Ok i) eg = let here = reaches s t u e (Ok i) eg i refl in answered s t u e i here act (field_at t i number) q (h i here)

  module _ (r : Answer) where
    abbrev ToldBy : ℕ → Type 0
    ToldBy number = r ≡ told t number (reach_of (length s) t u e)

    told-by : (act : Act) (number : ℕ) → leaves_content act ≡ true → ((i : ℕ) (here : Reached (length s) t u e i) → Asks s t u e i here act (field_at t i number))
        → ToldBy number → outcome r s t ≡ request_out (uses act) s t u e
    told-by act number q h w = ap (λ (a : Answer). outcome a s t) w ∙ tells act number q h (reach_of (length s) t u e) refl

    pub species-told : ToldBy 3 → outcome r s t ≡ request_out (uses ask_species) s t u e
    species-told = told-by ask_species 3 refl (asks-species s t u e)

    pub permit_told : ToldBy 2 → outcome r s t ≡ request_out (uses ask_permit) s t u e
    permit_told = told-by ask_permit 2 refl (asks-permit s t u e)

    pub begin-told : ToldBy 4 → outcome r s t ≡ request_out (uses ask_begin) s t u e
    begin-told = told-by ask_begin 4 refl (asks-begin s t u e)

    pub end-told : ToldBy 5 → outcome r s t ≡ request_out (uses ask_end) s t u e
    end-told = told-by ask_end 5 refl (asks-end s t u e)

module _ (s t : List ℕ) (u e : ℕ) (g : Gate) (eg : g ≡ reach_of (length s) t u e) where
  pub refused-at-gate : (act : Act) (why : Refusal) → g ≡ Err why → outcome (Err why) s t ≡ request_out (uses act) s t u e
  refused-at-gate act why at = reaches-not s t u e g eg (uses act) refl why at

  module _ (i : ℕ) (at : g ≡ Ok i) where
    here-at : Reached (length s) t u e i
    here-at = reaches s t u e g eg i at

    module _ (a b c : ℕ) (ea : a ≡ field_at t i 3) (eb : b ≡ field_at t i 4) (ec : c ≡ field_at t i 5) where
      pub claim-answered : (n : ℕ) → n ≡ claim_of a b c → outcome (Ok n) s t ≡ request_out (uses ask_claim) s t u e
      claim-answered n en =
          answered s t u e i here-at ask_claim n refl (asks-claim s t u e i here-at ∙ asks-number s t u e i here-at (sym (en ∙ (λ j. claim_of (ea j) (eb j) (ec j)))))

      sound : SoundExtent a b c
      sound =
          let o = opening_at t i in
          subst₃ SoundExtent
          (species-cell t i ∙ sym ea)
          (sym (value_in o 0) ∙ value_cell t i 0 (omega arith) ∙ sym eb)
          (sym (value_in o 1) ∙ value_cell t i 1 (omega arith) ∙ sym ec)
          (reached-sound here-at).extent

      pub claim-species : a ≤ greatest_species
      claim-species = sound.species

      pub claim-first : 1 ≤ b
      claim-first = sound.begin

      pub claim-order : b ≤ c
      claim-order = sound.end

      pub claim-last : c ≤ greatest_end
      claim-last = sound.greatest

      pub claim-held : held_of a b c ≤ most_held
      claim-held = sound.held

    pub no-symbol-answered : (k : ℕ) → 11 < k → outcome (Ok 63) s t ≡ request_out (uses (ask_symbol k)) s t u e
    no-symbol-answered k h = answered s t u e i here-at (ask_symbol k) 63 refl (asks-no-symbol s t u e i here-at k h)

    pub symbol-answered : (k n : ℕ) → k ≤ 11 → n ≡ field_at t i (12 + k) → outcome (Ok n) s t ≡ request_out (uses (ask_symbol k)) s t u e
    symbol-answered k n h q =
        answered s t u e i here-at (ask_symbol k) n refl (asks-symbol s t u e i here-at k (omega arith) ∙ asks-number s t u e i here-at (sym q))

    pub no-pointer-answered : (p : ℕ) → 7 < p → outcome (Err Pointer) s t ≡ request_out (uses (ask_value p)) s t u e
    no-pointer-answered p h =
        answered-not s t u e i here-at (ask_value p) Pointer refl
        (asks-no-value s t u e i here-at p (value-beyond t i (passed-long here-at.passed) (passed-few here-at.passed) p h))

    -- v is the value of pointer p, b the test whether there is none
    module _ (p : ℕ) (v : Position) (lp : p ≤ 7) (q : v.0 ≡ field_at t i (4 + p)) (b : Bool) (eb : b ≡ eqb v.0 0) where
      pub no-value-answered : b ≡ true → outcome (Err Pointer) s t ≡ request_out (uses (ask_value p)) s t u e
      no-value-answered z =
          answered-not s t u e i here-at (ask_value p) Pointer refl (asks-no-value s t u e i here-at p (value_cell t i p (omega arith) ∙ sym q ∙ none_so b v.0 eb z))

      pub value-answered : b ≡ false → (n : ℕ) → n ≡ v.0 → outcome (Ok n) s t ≡ request_out (uses (ask_value p)) s t u e
      value-answered d n en =
          answered s t u e i here-at (ask_value p) n refl
          (asks-value s t u e i here-at p n (value_cell t i p (omega arith) ∙ sym (en ∙ q)) (λ z. none-not b v.0 eb d (sym en ∙ z)))

pub ruleset inquiring = (long-behind, entry-behind, tell_no, tell-at, species-told, permit_told, begin-told, end-told, refused-at-gate, claim-answered, claim-species, claim-first, claim-order, claim-last, claim-held, no-symbol-answered, symbol-answered, no-pointer-answered, no-value-answered, value-answered)
