-- No other user has a public file open: kept by the landlord's own effects, and by another's private ones. Assumes nothing.
use Rattle.std.specs.Prelude.{ℕ, ◌≡◌, refl, ◌≢◌, Bool, true, false, not, List, map, T, get_or, set}
use Rattle.std.proofs.Math.Decide.{ℕ_discrete}
use Rattle.std.proofs.Common.{sym, ap, ◌∙◌, subst, get_or-set_other}
use Rattle.std.proofs.Math.Option.{Option, none, some}
use Rattle.std.proofs.Math.ListN.{get_or-map}
use Rattle.placing.specs.Sizes.{user_of}
use Rattle.rules.specs.Readable.{may_read}
use Rattle.rules.specs.Headings.{Heading, Handle, Open, head_of, handle_of, passes, is_some}
use Rattle.rules.specs.Effects.{Effect, Use, Others}
use Rattle.rules.specs.House.{house, changed}
use Rattle.rules.specs.Levels.{perform}
use Rattle.model.specs.Model.{File, Body, Files, model_level}
use Rattle.combine.specs.Laws.Replaced.{either}
use Rattle.proof_requests_sound.specs.Uses.{Usable, asks, renames, moves, first, last, replaces, appends}
use Rattle.proof_requests_sound.specs.Allowed.{Opens, a-new, an-old, PlaceOf, Filing, Handles, an-end, a-freeing, a-filing, a-use}
use Rattle.proof_neighbours.specs.Neighbours.{public_at, opens_public, NonePublic}
use Rattle.proof_neighbours.proofs.Effects.{privately}
use Rattle.proof_neighbours.proofs.Busy.{Known, his-alone}

abbrev public_in : List (Option File) → Option (Open Body) → Bool
public_in rs z = passes (λ x. public_at rs x.place) (handle_of z)

module _ (a : ℕ) (k : Files) (q : NonePublic a k) where
  -- an entry is set
  quiet_at : (i : ℕ) (y : Option (Open Body)) → (user_of i ≢ a → T (not (opens_public (house k.segments k.records (set k.openings i y)) i)))
      → NonePublic a (house k.segments k.records (set k.openings i y))
  quiet_at i y t j d = go (ℕ_discrete j i)
    where
      go : Dec (j ≡ i) → T (not (opens_public (house k.segments k.records (set k.openings i y)) j))
      go (yes e) = subst (λ (n : ℕ). user_of n ≢ a → T (not (opens_public (house k.segments k.records (set k.openings i y)) n))) (sym e) t d
      go (no n) = rw (get_or-set_other k.openings i j y none n) (q j d)

  quiet-entry : (i : ℕ) (y : Option (Open Body)) → (user_of i ≢ a → T (not (public_in k.records y)))
      → NonePublic a (house k.segments k.records (set k.openings i y))
  quiet-entry i y t = quiet_at i y (λ d. either (λ z. T (not (public_in k.records z))) k.openings i i y none (t d) (q i d))

  -- a place is set
  quiet-place : (p : ℕ) (y : Option File)
      → ((j : ℕ) (x : Open Body) → user_of j ≢ a → get_or k.openings j none ≡ some x → x.handle.place ≡ some p → T (not (passes (λ r. not r.private) (head_of y))))
      → NonePublic a (house k.segments (set k.records p y) k.openings)
  quiet-place p y h j d = go (get_or k.openings j none) refl (q j d)
    where
      go : (z : Option (Open Body)) → get_or k.openings j none ≡ z → T (not (public_in k.records z)) → T (not (public_in (set k.records p y) z))
      go none ix t = tt
      go (some x) ix t = at x.handle.place refl t
        where
          at : (m : Option ℕ) → x.handle.place ≡ m → T (not (public_at k.records m)) → T (not (public_at (set k.records p y) m))
          at none em t = tt
          at (some m) em t = here (ℕ_discrete m p)
            where
              here : Dec (m ≡ p) → T (not (public_at (set k.records p y) (some m)))
              here (yes e) = either (λ z. T (not (passes (λ r. not r.private) (head_of z)))) k.records p m y none (h j x d ix (em ∙ ap {B = Option ℕ} some e)) t
              here (no n) = rw (get_or-set_other k.records p m y none n) t

-- a use does not change the place
use-place : (h : Handle) (takes : ℕ → Bool) (room : Bool) (w : Use) → Usable h takes room w → w.handle.place ≡ h.place
use-place h takes room w (asks n) = refl
use-place h takes room w (renames n p) = refl
use-place h takes room w (moves c p v q p0 p1 l r k) = refl
use-place h takes room w (first c p l k) = refl
use-place h takes room w (last c p l k) = refl
use-place h takes room w (replaces p n c p0 p1 l r k b) = refl
use-place h takes room w (appends n c l r d k b) = refl

module _ (a : ℕ) (k : Files) (w : Known a k) (i : ℕ) where
  pub quiet-opens : (u : ℕ) (rs : List (Option Heading)) (o : Others) (x : Open Body) (f : Effect) → Opens u rs o f
      → (user_of i ≢ a → T (not (opens_public (changed k i (perform model_level k x f)) i))) → NonePublic a (changed k i (perform model_level k x f))
  quiet-opens u rs o x f (a-new n l) t = quiet_at a k w.quiet i _ t
  quiet-opens u rs o x f (an-old p n l) t = quiet_at a k w.quiet i _ t

  module _ (x : Open Body) (ix : get_or k.openings i none ≡ some x) where
    -- where the landlord files, nobody else has an opening
    his-place : (p : ℕ) (r : Heading) → Filing (user_of i) (map head_of k.records) x.handle p r → user_of i ≡ a
        → (j : ℕ) (y : Open Body) → get_or k.openings j none ≡ some y → y.handle.place ≡ some p → user_of j ≡ a
    his-place p r l u j y jy ey = go x.handle.place refl l.place
      where
        empty : (z : Option File) (f : File) → T (not (is_some (head_of z))) → z ≡ some f → ⊥
        empty z f t e = subst (λ (o : Option File). T (not (is_some (head_of o)))) e t

        go : (m : Option ℕ) → x.handle.place ≡ m → PlaceOf (map head_of k.records) m p → user_of j ≡ a
        go none e t =
            let z = w.tied j p y jy ey in
            absurd (empty (get_or k.records p none) z.filed (subst (λ (o : Option Heading). T (not (is_some o))) (get_or-map head_of k.records p none) t.1) z.there)
        go (some m) e t =
            let z = w.tied i m x ix e in
            his-alone a k w z.filed (subst (λ (v : ℕ). T (may_read v z.filed.head)) u z.readable) j p y jy ey
            (subst (λ (n : ℕ). get_or k.records n none ≡ some z.filed) t z.there)

    pub quiet-handles : (takes : ℕ → Bool) (o : Others) (f : Effect) → Handles (user_of i) (map head_of k.records) takes o x.handle f
        → (user_of i ≢ a → T (privately f)) → NonePublic a (changed k i (perform model_level k x f))
    quiet-handles takes o f an-end t = quiet-entry a k w.quiet i none (λ d. tt)
    quiet-handles takes o f (a-freeing p e l) t =
        quiet-entry a (house k.segments (set k.records p none) k.openings) (quiet-place a k w.quiet p none (λ j y d jy ey. tt)) i none (λ d. tt)
    quiet-handles takes o f (a-filing p r l) t =
        quiet-entry a (house k.segments (set k.records p (some _)) k.openings) (quiet-place a k w.quiet p (some _) (λ j y d jy ey. go j y d jy ey (ℕ_discrete (user_of i) a))) i none (λ d. tt)
      where
        hidden : (b : Bool) → T b → T (not (not b))
        hidden true t = tt
        hidden false t = t

        go : (j : ℕ) (y : Open Body) → user_of j ≢ a → get_or k.openings j none ≡ some y → y.handle.place ≡ some p → Dec (user_of i ≡ a) → T (not (not r.private))
        go j y d jy ey (yes u) = absurd (d (his-place p r l u j y jy ey))
        go j y d jy ey (no u) = hidden r.private (t u)
    quiet-handles takes o f (a-use u l) t =
        quiet-entry a k w.quiet i (some _) (λ d. subst (λ (m : Option ℕ). T (not (public_at k.records m))) (sym (use-place x.handle takes o.room u l)) (here (w.quiet i d)))
      where
        here : T (not (opens_public k i)) → T (not (public_at k.records x.handle.place))
        here q = rw ix at q
