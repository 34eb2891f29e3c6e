-- Requests, counts and starts on cells, beside the model's: the answers agree, and so does what users know afterwards. Assumes nothing.
use Rattle.std.specs.Prelude.{ℕ, ◌*◌, ◌≤◌, ◌≡◌, Bool, ◌&&◌, cond, List, ltb, leb, length}
use Rattle.std.proofs.Math.Path.{refl, ap}
use Rattle.std.proofs.Common.{sym, ◌∙◌, eq-eqb}
use Rattle.std.proofs.Math.Bool.{true, false}
use Rattle.std.proofs.Math.Option.{Option, none, some}
use Rattle.combine.specs.Verdict.{done, refuse◌when◌else◌}
use Rattle.combine.specs.Outcome.{Outcome, settle}
use Rattle.placing.specs.Sizes.{segment_cells, fresh_segments, tables_length}
use Rattle.rules.specs.Calls.{Request, fresh, load, count}
use Rattle.rules.specs.Headings.{is_some}
use Rattle.rules.specs.House.{fresh_house}
use Rattle.rules.specs.Gates.{user_gate, start_gate, image_gate}
use Rattle.segments.specs.Free.{SegmentHouse, free_count}
use Rattle.tables.specs.Layout.{fresh_tables}
use Rattle.tables.specs.Sound.{soundb}
use Rattle.tables.specs.Laws.Sound.{fits-store}
use Rattle.image.specs.Image.{served, imageb, tables_from}
use Rattle.cells.specs.Says.{house_of}
use Rattle.cells.specs.Outcomes.{Lent, lent, sound_lent, lengthsb, request_out, free_out, fresh_out, load_out}
use Rattle.cells.specs.Laws.Operator.{fresh-says}
use Rattle.cells.specs.Laws.Lowered.{state_of}
use Rattle.model.specs.Model.{Files, Model, model, free}
use Rattle.model.specs.Step.{files_or, request_on_model, start_on_model, ask_model}
use Rattle.model.specs.View.{view_house, view, files_in}
use Rattle.proof_cells_agree.specs.SoundSays.{sound-says}
use Rattle.proof_requests_agree.specs.Agrees.{request-agrees}
use Rattle.proof_model.specs.Counted.{free_seen}
use Rattle.proof_model.specs.Entries.{view_state}
use Rattle.proof_model.specs.Requests.{request-seen}
use Rattle.demands.specs.History.{look_on, view_on}

-- the same answer, and users know what the model has
pub record Agrees (o : Outcome Lent) (q : Outcome Model) : Type 0 where
  pub answer : o.answer ≡ q.answer
  pub after : view_on o.after ≡ q.after

-- "A number fits a store of at least 64 times as many cells"
house-fits : (cells : ℕ) (t : List ℕ) → soundb cells t ≡ true → segment_cells * (house_of t).segments ≤ cells
unfolding house_of
house-fits cells t ok = fits-store cells t ok

module _ (s t : List ℕ) where
  -- ---- on sound tables

  module _ (sound : sound_lent s t ≡ true) where
    pub request-agreed : (r : Request) (u e : ℕ) → Agrees (request_out r s t u e) (request_on_model r u e (view s t))
    unfolding view
    request-agreed r u e =
        let cells = request-agrees r s t u e sound in
        let shown = request-seen (state_of (lent s t)) (sound-says (length s) t sound) (house-fits (length s) t sound) r u e in
        record { answer = cells.answer ∙ shown.answer; after = ap view_state cells.after ∙ shown.after }

    pub count-agreed : (u : ℕ) → (free_out s t u).answer ≡ ask_model (count u) (view s t)
    unfolding free_out user_gate settle refuse◌when◌else◌ view
    count-agreed u = rw sound (go (ltb 7 u))
      where
        counted : free (view_house s (house_of t)) ≡ free_count (house_of t)
        counted = free_seen s (house_of t) (sound-says (length s) t sound)

        go : (b : Bool) → (settle (lent s t) (refuse 1 when b else done (free_count (house_of t), lent s t))).answer
            ≡ (refuse 1 when b else done (free (view_house s (house_of t))))
        go true = refl
        go false = ap done (sym counted)

  -- ---- "A fresh start and a load don't look at what the tables held, only at their length and the store's."

  module _ (long : length t ≡ tables_length) where
    large : lengthsb s t ≡ leb 64 (length s)
    large = ap (λ (b : Bool). b && leb 64 (length s)) (eq-eqb (length t) tables_length long)

    fresh-seen : view s (fresh_tables (fresh_segments (length s))) ≡ model (length s) (fresh_house (length s))
    unfolding view
    fresh-seen = ap (λ (h : SegmentHouse). model (length s) (view_house s h)) (fresh-says (fresh_segments (length s)))

    pub fresh-agreed : Agrees (fresh_out s t) (start_on_model (look_on (lent s t)) fresh (view s t))
    unfolding fresh_out start_gate settle refuse◌when◌else◌ view
    fresh-agreed = rw large (go (leb 64 (length s)))
      where
        go : (b : Bool) → Agrees (settle (lent s t) (start_gate b (done (0, lent s (fresh_tables (fresh_segments (length s)))))))
            (settle (view s t) (start_gate b (done (0, model (length s) (fresh_house (length s))))))
        go true = record { answer = refl; after = fresh-seen }
        go false = record { answer = refl; after = refl }

    pub load-agreed : (img : List ℕ) → Agrees (load_out s t img) (start_on_model (look_on (lent s t)) (load img) (view s t))
    unfolding load_out image_gate start_gate settle refuse◌when◌else◌ view files_in
    load-agreed img = rw large (go (leb 64 (length s)) (imageb served (length s) img))
      where
        loaded : Files
        loaded = view_house s (house_of (tables_from served img))

        look : Bool → Option Files
        look c = cond c (some loaded) none

        go : (b c : Bool) → Agrees (settle (lent s t) (image_gate b c (done (0, lent s (tables_from served img)))))
            (settle (view s t) (image_gate b (is_some (look c)) (done (0, model (length s) (files_or (view_house s (house_of t)) (look c))))))
        go true true = record { answer = refl; after = refl }
        go true false = record { answer = refl; after = refl }
        go false c = record { answer = refl; after = refl }
