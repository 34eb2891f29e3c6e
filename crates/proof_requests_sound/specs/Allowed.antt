-- What holds of an effect that a rule gives: the facts behind the refusals that were not given. Assumes nothing.
use Rattle.std.specs.Prelude.{ℕ, ◌≤◌, ◌<◌, ◌≡◌, true, false, ◌&&◌, ◌||◌, cond, List, T, leb, eqb, length, get_or}
use Rattle.std.proofs.Math.Path.{refl}
use Rattle.std.proofs.Common.{subst, eqb→eq, nltb→le}
use Rattle.std.proofs.Math.Bool.{Bool, not}
use Rattle.std.proofs.Math.Option.{Option, none, some}
use Rattle.std.proofs.Math.Dec.{nleb→lt}
use Rattle.combine.specs.Lists.{any, first_where}
use Rattle.names.specs.Names.{name_of, is_scratch}
use Rattle.placing.specs.Sizes.{greatest_species}
use Rattle.rules.specs.Calls.{new, work, read, Request, opens, closes, abandons, uses}
use Rattle.rules.specs.Headings.{Heading, Handle, passes, is_some}
use Rattle.rules.specs.Effects.{Use, Effect, opens_new, opens_old, ended, unfiled, filed, used, Others}
use Rattle.rules.specs.Access.{acting}
use Rattle.rules.specs.Readable.{may_read}
use Rattle.rules.specs.Laws.Readable.{may_read_at}
use Rattle.rules.proofs.Laws.Readable.{look-up-read}
use Rattle.rules.specs.Rules.{is_own, is_public, look_up, opened_as, busy, open_record, open_old, open_new, headed, without, place_for, vanish, close_rule, rule, new_handle}
use Rattle.combine.specs.Laws.Tests.{not-not, nor-first, nor-second, and_first, and_second, nand-second}
use Rattle.combine.specs.Laws.Replaced.{first-where, place-below}
use Rattle.proof_requests_sound.specs.Verdicts.{Has, has, has-on_done}
use Rattle.proof_requests_sound.specs.Uses.{Usable, usable-acting}

-- ---- the facts, by effect: u is the user, rs the headings of the catalogue's places

-- the record at p is opened, and h is its handle
pub record Old (u : ℕ) (rs : List (Option Heading)) (o : Others) (p : ℕ) (h : Handle) : Type 0 where
  pub heading : Heading
  pub work : Bool
  pub there : get_or rs p none ≡ some heading
  pub handle : h ≡ opened_as work p heading
  pub seen : T (may_read u heading)
  pub mine : T work → heading.owner ≡ u
  pub free : T (not (busy work p o))

-- p is the place of the opening's record, or a free place for a new one
abbrev pub PlaceOf : List (Option Heading) → Option ℕ → ℕ → Type 0
PlaceOf rs none p = (p < length rs) × T (not (is_some (get_or rs p none)))
PlaceOf rs (some q) p = q ≡ p

-- the opening with the handle h becomes the record r at p
pub record Filing (u : ℕ) (rs : List (Option Heading)) (h : Handle) (p : ℕ) (r : Heading) : Type 0 where
  pub public : Bool
  pub heading : r ≡ headed public u h
  pub permit : T h.permit
  pub named : T (not (is_scratch h.name))
  pub place : PlaceOf rs h.place p
  pub none_own : T (not (any (passes (is_own u h.name)) (without rs h.place)))
  pub none_public : T public → T (not (any (passes (is_public h.name)) (without rs h.place)))

-- at a closed entry
pub data Opens (u : ℕ) (rs : List (Option Heading)) (o : Others) : Effect → Type 0 where
  a-new : (s : ℕ) → s ≤ greatest_species → Opens u rs o (opens_new (new_handle s))
  an-old : (p : ℕ) (h : Handle) → Old u rs o p h → Opens u rs o (opens_old p h)

-- at an open one
pub data Handles (u : ℕ) (rs : List (Option Heading)) (takes : ℕ → Bool) (o : Others) (h : Handle) : Effect → Type 0 where
  an-end : Handles u rs takes o h ended
  a-freeing : (p : ℕ) → h.place ≡ some p → T h.permit → Handles u rs takes o h (unfiled p)
  a-filing : (p : ℕ) (r : Heading) → Filing u rs h p r → Handles u rs takes o h (filed p r)
  a-use : (w : Use) → Usable h takes o.room w → Handles u rs takes o h (used w)

abbrev pub Allowed : ℕ → List (Option Heading) → (ℕ → Bool) → Others → Option Handle → Effect → Type 0
Allowed u rs takes o none f = Opens u rs o f
Allowed u rs takes o (some h) f = Handles u rs takes o h f

-- ---- by request

module _ (u : ℕ) (rs : List (Option Heading)) (takes : ℕ → Bool) (o : Others) where
  allowed-record : (w : Bool) (p : ℕ) (r : Option Heading) → get_or rs p none ≡ r → (p < length rs → T (may_read_at u (get_or rs p none)))
      → Has (Allowed u rs takes o none) (open_record w u p r o)
  allowed-record w p none e s = tt
  allowed-record w p (some r) e s = has _ _ _ _ (λ h13. has _ _ _ _ (λ h14.
      an-old p (opened_as w p r) (record {
        heading = r;
        work = w;
        there = e;
        handle = refl;
        seen = subst (λ (x : Option Heading). T (may_read_at u x)) e (s (place-below rs p r e));
        mine = λ t. eqb→eq r.owner u (not-not (eqb r.owner u) (nand-second w (not (eqb r.owner u)) h13 t));
        free = h14;
      })))

  allowed-old : (w : Bool) (n : List ℕ) → Has (Allowed u rs takes o none) (open_old w u n rs o)
  unfolding open_old
  allowed-old w n = has _ _ _ _ (λ h15. allowed-record w (look_up u n rs) (get_or rs (look_up u n rs) none) refl (look-up-read u n rs))

  allowed-new : (s : ℕ) → Has (Allowed u rs takes o none) (open_new s)
  unfolding open_new
  allowed-new s = has _ _ _ _ (λ h19. a-new s (nltb→le greatest_species s h19))

  allowed-vanish : (h : Handle) (q : Option ℕ) → h.place ≡ q → T h.permit → Handles u rs takes o h (vanish q)
  allowed-vanish h none e t = an-end
  allowed-vanish h (some p) e t = a-freeing p e t

  place-for : (q : Option ℕ) → T (not (leb (length rs) (place_for rs q))) → PlaceOf rs q (place_for rs q)
  place-for none t =
      let l : first_where (λ r. not (is_some r)) rs < length rs = nleb→lt (length rs) (first_where (λ r. not (is_some r)) rs) t in
      (l, first-where (λ r. not (is_some r)) rs none l)
  place-for (some p) t = refl

  allowed-close : (b : Bool) (h : Handle) → Has (Allowed u rs takes o (some h)) (close_rule b u rs h)
  unfolding close_rule
  allowed-close b h = has _ _ _ _ (λ h18. has _ _ _ _ (λ h16. has _ _ _ _ (λ h17. go files refl h16 h17)))
    where
      files : Bool
      files = h.permit && not (is_scratch h.name)

      others : List (Option Heading)
      others = without rs h.place

      go : (f : Bool) → files ≡ f
          → T (not (f && (any (passes (is_own u h.name)) others || b && any (passes (is_public h.name)) others)))
          → T (not (f && leb (length rs) (place_for rs h.place)))
          → Handles u rs takes o h (cond f (filed (place_for rs h.place) (headed b u h)) (cond h.permit (vanish h.place) ended))
      go true e h16 h17 =
          let t : T files = rw e tt in
          a-filing (place_for rs h.place) (headed b u h) (record {
            public = b;
            heading = refl;
            permit = and_first h.permit (not (is_scratch h.name)) t;
            named = and_second h.permit (not (is_scratch h.name)) t;
            place = place-for h.place h17;
            none_own = nor-first (any (passes (is_own u h.name)) others) _ h16;
            none_public = nand-second b _ (nor-second (any (passes (is_own u h.name)) others) _ h16);
          })
      go false e h16 h17 = ends h.permit refl
        where
          ends : (w : Bool) → h.permit ≡ w → Handles u rs takes o h (cond w (vanish h.place) ended)
          ends true q = allowed-vanish h h.place refl (rw q tt)
          ends false q = an-end

  pub allowed-rule : (r : Request) (h : Option Handle) → Has (Allowed u rs takes o h) (rule r u rs h takes o)
  allowed-rule (opens (new s)) none = allowed-new s
  allowed-rule (opens (work bytes)) none = allowed-old true (name_of bytes)
  allowed-rule (opens (read bytes)) none = allowed-old false (name_of bytes)
  allowed-rule (opens w) (some h) = tt
  allowed-rule (closes b) none = tt
  allowed-rule (closes b) (some h) = allowed-close b h
  allowed-rule abandons none = tt
  allowed-rule abandons (some h) = an-end
  allowed-rule (uses a) none = tt
  allowed-rule (uses a) (some h) =
      has-on_done (Usable h takes o.room) (Allowed u rs takes o (some h)) used (acting a takes o.room h) (λ w k. a-use w k) (usable-acting takes o.room h a)
