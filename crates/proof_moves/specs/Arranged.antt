-- Moves that can be carried out, on the cells of store and tables with nothing open: soundness, lengths, what users know, the segments left
-- behind and the cells beyond stay. Assumes nothing.
use Rattle.std.specs.Prelude.{ℕ, ◌+◌, ◌*◌, ◌≤◌, ◌<◌, ◌≡◌, true, false, not, List, T, get_or}
use Rattle.std.proofs.Common.{arith, sym, ap, ◌∙◌, subst}
use Rattle.std.proofs.Math.Option.{none}
use Rattle.std.proofs.Math.ListN.{length}
use Rattle.combine.specs.Lists.{is_in}
use Rattle.combine.specs.Laws.Pairs.{tos}
use Rattle.placing.specs.Sizes.{segment_cells, places, tables_length}
use Rattle.rules.specs.House.{has_open}
use Rattle.segments.specs.Moves.{exchange, moved_cells}
use Rattle.segments.specs.Laws.Sound.{SoundHouse}
use Rattle.tables.specs.Layout.{segments_in, record_at}
use Rattle.tables.specs.Laws.Sound.{ranged-of, fits-store}
use Rattle.cells.specs.Says.{decoded_record, house_of}
use Rattle.cells.specs.Moved.{moved_tables}
use Rattle.cells.specs.Outcomes.{sound_lent}
use Rattle.cells.specs.Laws.Written.{FitsPlace}
use Rattle.model.specs.Model.{model}
use Rattle.model.specs.View.{view_house, view}
use Rattle.proof_cells_agree.specs.There.{record-at}
use Rattle.proof_cells_agree.specs.Canonical.{sound-canonical}
use Rattle.proof_cells_agree.specs.SoundSays.{sound-says}
use Rattle.proof_cells_agree.specs.SaysSound.{says-sound}
use Rattle.proof_moves.specs.Carried.{moved_length, moved-elsewhere, moved-beyond}
use Rattle.proof_moves.specs.Moves.{Moves, froms-inside, tos-inside, moves-exchange, moves-carry}
use Rattle.proof_moves.specs.Renumbered.{renumbered}
use Rattle.proof_moves.specs.Moved.{sound-renumbered, moved}
use Rattle.proof_moves.specs.Tables.{place-fits, Renumbered, renumbered-first, renumbered-says, renumbered-canonical}

module _ (l s t : List ℕ) (sound : sound_lent s t ≡ true) (still : has_open (house_of t) ≡ false) (m : Moves (house_of t) l) where
  said : SoundHouse (house_of t)
  said = sound-says (length s) t sound

  room : segment_cells * (house_of t).segments ≤ length s
  unfolding house_of
  room = fits-store (length s) t sound

  each_fits : (p : ℕ) → p < places → FitsPlace (decoded_record (record_at t p))
  each_fits p lp = subst FitsPlace (record-at t p lp) (place-fits (house_of t).segments (get_or (house_of t).records p none) (said.records p))

  after : Renumbered (exchange l) places t (moved_tables l t)
  after = renumbered-first (exchange l) t (ranged-of (length s) t sound).0 each_fits places (omega arith)

  pub arranged-says : house_of (moved_tables l t) ≡ renumbered (exchange l) (house_of t)
  arranged-says = renumbered-says (exchange l) t (moved_tables l t) after each_fits still

  pub arranged-store : length (moved_cells s l) ≡ length s
  arranged-store = moved_length (house_of t).segments s l room (froms-inside (house_of t) l m) (tos-inside (house_of t) l m)

  pub arranged-tables : length (moved_tables l t) ≡ tables_length
  arranged-tables = after.long

  -- "Every call leaves sound tables sound."
  pub arranged-sound : sound_lent (moved_cells s l) (moved_tables l t) ≡ true
  unfolding house_of
  arranged-sound =
      let fits : segment_cells * segments_in (moved_tables l t) ≤ length (moved_cells s l) = rw (after.number, arranged-store) room in
      says-sound (length (moved_cells s l)) (moved_tables l t) arranged-tables fits
      (renumbered-canonical (exchange l) t (moved_tables l t) after each_fits still (sound-canonical (length s) t sound))
      (subst SoundHouse (sym arranged-says) (sound-renumbered (exchange l) (house_of t) (moves-exchange (house_of t) l m) said))

  -- "all files read as before"
  pub arranged-view : view (moved_cells s l) (moved_tables l t) ≡ view s t
  unfolding view
  arranged-view = λ i. model (arranged-store i) ((ap (view_house (moved_cells s l)) arranged-says
      ∙ moved s (moved_cells s l) (exchange l) (house_of t) (moves-exchange (house_of t) l m) said (moves-carry (house_of t) l m s room)) i)

  -- "Segments left behind keep their cells"; "cells beyond are never touched"
  pub arranged-behind : (g : ℕ) → T (not (is_in g (tos l))) → (c : ℕ) → c < segment_cells → get_or (moved_cells s l) (g * segment_cells + c) 0 ≡ get_or s (g * segment_cells + c) 0
  arranged-behind = moved-elsewhere (house_of t).segments s l room (froms-inside (house_of t) l m) (tos-inside (house_of t) l m)

  pub arranged-beyond : (k : ℕ) → segment_cells * segments_in t ≤ k → get_or (moved_cells s l) k 0 ≡ get_or s k 0
  unfolding house_of
  arranged-beyond = moved-beyond (house_of t).segments s l room (froms-inside (house_of t) l m) (tos-inside (house_of t) l m)
