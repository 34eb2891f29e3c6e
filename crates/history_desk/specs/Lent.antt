-- What a call answers that is lent images or lists, by numbers that need not stand in a line. Assumes nothing.
use Rattle.std.specs.Prelude.{ℕ, ◌≡◌, List, Option}
use Rattle.std.proofs.Math.Path.{sym, ap}
use Rattle.std.proofs.Common.{◌∙◌}
use Rattle.std.proofs.Math.Bool.{true, false}
use Rattle.history_words.specs.declared.Numbers.{Numbers}
use Rattle.history_lines.specs.declared.OfLent.{OfLent}
use Rattle.history_lines.specs.declared.OfLent.TheVariants as of_lent
use Rattle.history_calls.specs.declared.Reply.{Reply}
use Rattle.history_buffers.specs.Numbers.{one_number}
use Rattle.history_buffers.specs.Buffers.{answering}
use Rattle.history_lent.specs.Rooms.{lending}
use Rattle.history_lent.specs.Images.{image_line}
use Rattle.history_lent.specs.Lists.{run_line}
use Rattle.history_lent.specs.Moves.{moving, move_line}
use Rattle.history_desk.specs.Desk.{Out, out, lent_out, moved_out, call_with}

module _ (l s t i : List ℕ) (ns : Option Numbers) where
  pub with-known : (w k : OfLent) (y : Out) → w ≡ k → y ≡ call_with k l ns s t i → y ≡ call_with w l ns s t i
  with-known w k y q r = r ∙ sym (ap (λ x. call_with x l ns s t i) q)

  module _ (r : Reply) (s' t' i' : List ℕ) where
    module _ (x : Option ℕ) (ex : x ≡ one_number ns) where
      pub saves-with : lending r s' t' i' ≡ image_line l x true s t i → out (answering r l) s' t' i' ≡ call_with of_lent.Save l ns s t i
      unfolding lending
      saves-with p = ap (lent_out l) (p ∙ ap (λ z. image_line l z true s t i) ex)

      pub loads-with : lending r s' t' i' ≡ image_line l x false s t i → out (answering r l) s' t' i' ≡ call_with of_lent.Load l ns s t i
      unfolding lending
      loads-with p = ap (lent_out l) (p ∙ ap (λ z. image_line l z false s t i) ex)

    pub writes-with : lending r s' t' i' ≡ run_line l ns true s t i → out (answering r l) s' t' i' ≡ call_with of_lent.Writes l ns s t i
    unfolding lending
    writes-with p = ap (lent_out l) p

    pub nexts-with : lending r s' t' i' ≡ run_line l ns false s t i → out (answering r l) s' t' i' ≡ call_with of_lent.Nexts l ns s t i
    unfolding lending
    nexts-with p = ap (lent_out l) p

  module _ (r : Reply) (i' : List ℕ) where
    pub ups-with : moving r i' ≡ move_line l ns true i → out (answering r l) s t i' ≡ call_with of_lent.Up l ns s t i
    unfolding moving
    ups-with p = ap (moved_out l s t) p

    pub downs-with : moving r i' ≡ move_line l ns false i → out (answering r l) s t i' ≡ call_with of_lent.Down l ns s t i
    unfolding moving
    downs-with p = ap (moved_out l s t) p

pub ruleset lent-numbers = (saves-with, loads-with, writes-with, nexts-with, ups-with, downs-with, with-known)
