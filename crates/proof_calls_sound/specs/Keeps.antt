-- "Every call leaves sound tables sound."; and the lent slices keep their lengths, and the cells beyond the segments. Assumes nothing.
use Rattle.std.specs.Prelude.{ℕ, ◌≡◌, refl, true, false, List, [], ◌∷◌, length, get_or}
use Rattle.std.proofs.Common.{sym, ap, ◌∙◌, subst, ⊎_elim}
use Rattle.combine.specs.Laws.Below.{split-bool, not-both}
use Rattle.combine.specs.Verdict.{is_done}
use Rattle.combine.specs.Outcome.{Outcome}
use Rattle.rules.specs.Calls.{fresh, load, tidy, Call, starts, asks, arranges, on, runs}
use Rattle.tables.specs.Laws.Sound.{ranged-of}
use Rattle.cells.specs.Outcomes.{Lent, sound_lent}
use Rattle.cells.specs.Laws.Operator.{fresh-keeps-store, load-keeps-store}
use Rattle.demands.specs.History.{outcome_on, after_call, final}
use Rattle.demands.specs.Demands.{Sound, KeepsSound, DoneIsSound, KeepsLengths, KeepsBeyond, is_start}
use Rattle.demands.specs.Laws.Unsound.{refuses-unsound}
use Rattle.proof_moves.specs.Outcome.{tidy-sound, tidy-lengths, tidy-beyond}
use Rattle.proof_requests_agree.specs.Requests.{request-store-length, request-tables-length, request-sound, request-beyond}
use Rattle.proof_calls_sound.specs.Fresh.{fresh-tables-length, fresh-tables-sound}
use Rattle.proof_calls_sound.specs.Starts.{fresh-cases, load-cases, right-length, large-store, image-sound}
use Rattle.proof_calls_sound.specs.Runs.{run-kept}

pub keeps-sound : KeepsSound
keeps-sound (starts fresh) x ok = fresh-cases (λ o. Sound o.after) x.store x.tables ok (λ l. fresh-tables-sound (length x.store) (large-store x.store x.tables l))
keeps-sound (asks q) x ok = ok
keeps-sound (starts (load img)) x ok = load-cases (λ o. Sound o.after) x.store x.tables img (λ n. ok) (λ l i. image-sound (length x.store) img i)
keeps-sound (arranges tidy) x ok = tidy-sound x.store x.tables ok
keeps-sound (on u e r) x ok = request-sound r x.store x.tables u e ok
keeps-sound (runs u e r) x ok = (run-kept u e x r ok).sound

-- ---- a call that is done

-- a call that looks at what the tables hold is done on sound tables only
done-on-sound : (c : Call) (x : Lent) → is_start c ≡ false → is_done (outcome_on c x).answer ≡ true → Sound x
done-on-sound c x s d = ⊎_elim
    (λ e. e)
    (λ e. absurd (not-both d (ap (λ (o : Outcome Lent). is_done o.answer) (refuses-unsound c x s e))))
    (split-bool (sound_lent x.store x.tables))

pub done-is-sound : DoneIsSound
done-is-sound (starts fresh) x d =
    fresh-cases (λ o. is_done o.answer ≡ true → Sound o.after) x.store x.tables (λ q. absurd (not-both q refl))
    (λ l q. fresh-tables-sound (length x.store) (large-store x.store x.tables l)) d
done-is-sound (asks q) x d = keeps-sound (asks q) x (done-on-sound (asks q) x refl d)
done-is-sound (starts (load img)) x d =
    load-cases (λ o. is_done o.answer ≡ true → Sound o.after) x.store x.tables img (λ n q. absurd (not-both q refl))
    (λ l i q. image-sound (length x.store) img i) d
done-is-sound (arranges q) x d = keeps-sound (arranges q) x (done-on-sound (arranges q) x refl d)
done-is-sound (on u e r) x d = keeps-sound (on u e r) x (done-on-sound (on u e r) x refl d)
done-is-sound (runs u e r) x d = keeps-sound (runs u e r) x (done-on-sound (runs u e r) x refl d)

-- ---- lengths

abbrev SameLengths : Lent → Lent → Type 0
SameLengths x y = (length y.store ≡ length x.store) × (length y.tables ≡ length x.tables)

-- a call that looks at what the tables hold is refused on unsound tables
lengths-of : (c : Call) (x : Lent) → is_start c ≡ false → (Sound x → SameLengths x (after_call c x)) → SameLengths x (after_call c x)
lengths-of c x s h = ⊎_elim
    h
    (λ unsound. subst (λ (o : Outcome Lent). SameLengths x o.after) (sym (refuses-unsound c x s unsound)) (refl, refl))
    (split-bool (sound_lent x.store x.tables))

pub keeps-lengths : KeepsLengths
keeps-lengths (starts fresh) x = fresh-cases (λ o. SameLengths x o.after) x.store x.tables (refl, refl)
    (λ l. (refl, fresh-tables-length _ ∙ sym (right-length x.store x.tables l)))
keeps-lengths (asks q) x = (refl, refl)
keeps-lengths (starts (load img)) x = load-cases (λ o. SameLengths x o.after) x.store x.tables img (λ n. (refl, refl))
    (λ l i. (refl, (ranged-of (length x.store) _ (image-sound (length x.store) img i)).0 ∙ sym (right-length x.store x.tables l)))
keeps-lengths (arranges tidy) x = tidy-lengths x.store x.tables
keeps-lengths (on u e r) x = lengths-of (on u e r) x refl
    (λ ok. (request-store-length r x.store x.tables u e ok, request-tables-length r x.store x.tables u e ok ∙ sym (ranged-of (length x.store) x.tables ok).0))
keeps-lengths (runs u e r) x = lengths-of (runs u e r) x refl (λ ok. ((run-kept u e x r ok).store_length, (run-kept u e x r ok).tables_length))

-- ---- "cells beyond are never touched"

pub keeps-beyond : KeepsBeyond
keeps-beyond (starts fresh) x ok k l = ap (λ (s : List ℕ). get_or s k 0) (fresh-keeps-store x.store x.tables)
keeps-beyond (asks q) x ok k l = refl
keeps-beyond (starts (load img)) x ok k l = ap (λ (s : List ℕ). get_or s k 0) (load-keeps-store x.store x.tables img)
keeps-beyond (arranges tidy) x ok k l = tidy-beyond x.store x.tables k l
keeps-beyond (on u e r) x ok k l = request-beyond r x.store x.tables u e ok k l
keeps-beyond (runs u e r) x ok k l = (run-kept u e x r ok).beyond k l

-- ---- over histories

pub sound-final : (cs : List Call) (x : Lent) → Sound x → Sound (final cs x)
sound-final [] x s = s
sound-final (c ∷ cs) x s = sound-final cs (after_call c x) (keeps-sound c x s)

pub length-final : (cs : List Call) (x : Lent) → length (final cs x).store ≡ length x.store
length-final [] x = refl
length-final (c ∷ cs) x = length-final cs (after_call c x) ∙ (keeps-lengths c x).0
