-- What is known of the tables t and of entry i, of user u who names it e, behind the gate. Assumes nothing.
use Rattle.std.specs.Prelude.{ℕ, ◌<◌, ◌≡◌, true, List, length, get_or}
use Rattle.std.proofs.Common.{sym, ap, ◌∙◌, add-zero, arith}
use Rattle.combine.specs.Laws.Parts.{get_d_part}
use Rattle.placing.specs.Sizes.{entries, entry_of, tables_length, opening_length}
use Rattle.tables.specs.Layout.{opening_base, opening_of, opening_at}
use Rattle.tables.specs.Fields.{is_open}
use Rattle.tables.specs.Laws.OpeningFacts.{SoundOpening, opening-facts}
use Rattle.tables.specs.Laws.Sound.{ranged-of}
use Rattle.gate.specs.Passed.{Passed, Reached}

-- the first cell of an opening
pub opened-cell : (t : List ℕ) (i : ℕ) → (opening_at t i).opened ≡ get_or t (opening_base i) 0
unfolding opening_at opening_of
opened-cell t i = get_d_part t (opening_base i) opening_length 0 (omega arith) ∙ ap (λ (k : ℕ). get_or t k 0) (add-zero (opening_base i))

module _ {cells : ℕ} {t : List ℕ} {u e i : ℕ} where
  pub passed-long : Passed cells t u e i → length t ≡ tables_length
  passed-long p = (ranged-of cells t p.sound).0

  pub passed-few : Passed cells t u e i → i < entries
  passed-few p = omega arith

  pub reached-open : Reached cells t u e i → is_open (opening_at t (entry_of u e)) ≡ true
  reached-open r = ap (λ (k : ℕ). is_open (opening_at t k)) (sym r.passed.which) ∙ r.there

  pub reached-sound : Reached cells t u e i → SoundOpening t i (opening_at t i)
  reached-sound r = opening-facts t (ranged-of cells t r.passed.sound).2 i (passed-few r.passed) r.there
