-- Another's private effect, the landlord does not see. Assumes nothing.
use Rattle.std.specs.Prelude.{ℕ, ◌≡◌, refl, ◌≢◌, Bool, true, false, not, ◌||◌, List, map, T, eqb, get_or, set}
use Rattle.std.proofs.Common.{sym, ap, ◌∙◌, subst, eqb→eq}
use Rattle.std.proofs.Math.Option.{Option, none, some}
use Rattle.std.proofs.Math.ListN.{get_or-map}
use Rattle.combine.specs.Laws.Tests.{not-not}
use Rattle.placing.specs.Sizes.{user_of}
use Rattle.rules.specs.Readable.{may_read}
use Rattle.rules.specs.Headings.{Heading, Handle, Open, head_of, is_some}
use Rattle.rules.specs.Effects.{Effect, opens_new, opens_old, ended, unfiled, filed, used, Others}
use Rattle.rules.specs.Rules.{headed}
use Rattle.rules.specs.House.{house, changed}
use Rattle.rules.specs.Levels.{perform}
use Rattle.model.specs.Model.{File, Body, Files, model_level}
use Rattle.proof_requests_sound.specs.Allowed.{Opens, a-new, an-old, PlaceOf, Filing, Handles, an-end, a-freeing, a-filing, a-use}
use Rattle.proof_neighbours.specs.Neighbours.{opens_public, NonePublic}
use Rattle.proof_neighbours.specs.Sees.{SeesSame, unseen}
use Rattle.proof_neighbours.specs.Others.{entry-unseen, place-unseen}

-- ---- what sound tables say of openings and their records, as users know them

pub record Tied (k : Files) (i p : ℕ) (x : Open Body) : Type 0 where
  pub filed : File
  pub there : get_or k.records p none ≡ some filed
  pub readable : T (may_read (user_of i) filed.head)
  pub worker : T x.handle.permit → filed.head.owner ≡ user_of i

abbrev pub AllTied : Files → Type 0
AllTied k = (i p : ℕ) (x : Open Body) → get_or k.openings i none ≡ some x → x.handle.place ≡ some p → Tied k i p x

-- a filing is private
abbrev pub privately : Effect → Bool
privately (opens_new n) = true
privately (opens_old p n) = true
privately ended = true
privately (unfiled p) = true
privately (filed p r) = r.private
privately (used u) = true

not-his : (a : ℕ) (r : Heading) (v : ℕ) → T r.private → r.owner ≡ v → v ≢ a → T (not (may_read a r))
not-his a r v t o d = go r.private t (eqb r.owner a) refl
  where
    go : (b : Bool) → T b → (c : Bool) → eqb r.owner a ≡ c → T (not (not b || c))
    go true t true e = absurd (d (sym o ∙ eqb→eq r.owner a (rw e tt)))
    go true t false e = tt
    go false t c e = absurd t

pub headed-owner : (public : Bool) (u : ℕ) (n : Handle) (r : Heading) → r ≡ headed public u n → r.owner ≡ u
unfolding headed
headed-owner public u n r e = ap (λ (y : Heading). y.owner) e

module _ (a : ℕ) (h k : Files) (s : SeesSame a h k) (quiet : NonePublic a k) (tied : AllTied k) (i : ℕ) (other : user_of i ≢ a) where
  -- the record that he works on
  his-own : (x : Open Body) (p : ℕ) → get_or k.openings i none ≡ some x → x.handle.place ≡ some p → T x.handle.permit → T (unseen a (get_or k.records p none))
  his-own x p ix e w =
      let r = tied i p x ix e in
      let q : T (not (opens_public k i)) = quiet i other in
      let hidden : T (not (not r.filed.head.private)) = rw (ix, e, r.there) at q in
      rw r.there (not-his a r.filed.head (user_of i) (not-not r.filed.head.private hidden) (r.worker w) other)

  pub opens-unseen : (u : ℕ) (rs : List (Option Heading)) (o : Others) (x : Open Body) (f : Effect) → Opens u rs o f → SeesSame a h (changed k i (perform model_level k x f))
  opens-unseen u rs o x f (a-new n l) = entry-unseen a h k i _ other s
  opens-unseen u rs o x f (an-old p n w) = entry-unseen a h k i _ other s

  -- the place where he files
  filed-place : (x : Open Body) (ix : get_or k.openings i none ≡ some x) (p : ℕ) (r : Heading)
      → Filing (user_of i) (map head_of k.records) x.handle p r → T (unseen a (get_or k.records p none))
  filed-place x ix p r w = go x.handle.place refl w.place
    where
      empty : (y : Option File) → T (not (is_some (head_of y))) → T (unseen a y)
      empty none t = tt
      empty (some y) t = absurd t

      go : (q : Option ℕ) → x.handle.place ≡ q → PlaceOf (map head_of k.records) q p → T (unseen a (get_or k.records p none))
      go none e t = empty (get_or k.records p none) (subst (λ (y : Option Heading). T (not (is_some y))) (get_or-map head_of k.records p none) t.1)
      go (some q) e t = subst (λ (j : ℕ). T (unseen a (get_or k.records j none))) t (his-own x q ix e w.permit)

  pub handles-unseen : (takes : ℕ → Bool) (o : Others) (x : Open Body) → get_or k.openings i none ≡ some x → (f : Effect)
      → Handles (user_of i) (map head_of k.records) takes o x.handle f → T (privately f) → SeesSame a h (changed k i (perform model_level k x f))
  handles-unseen takes o x ix f an-end t = entry-unseen a h k i _ other s
  handles-unseen takes o x ix f (a-freeing p e w) t =
      entry-unseen a h (house k.segments (set k.records p none) k.openings) i none other (place-unseen a h k p none (his-own x p ix e w) tt s)
  handles-unseen takes o x ix f (a-filing p r w) t =
      entry-unseen a h (house k.segments (set k.records p (some _)) k.openings) i none other
      (place-unseen a h k p (some _) (filed-place x ix p r w) (not-his a r (user_of i) t (headed-owner w.public (user_of i) x.handle r w.heading) other) s)
  handles-unseen takes o x ix f (a-use u w) t = entry-unseen a h k i _ other s
