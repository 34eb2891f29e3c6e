-- A verdict that is neither "no room" nor "not now" is the same where there is more room and there are no more openings. Assumes nothing.
use Rattle.std.specs.Prelude.{ℕ, ◌≡◌, Bool, true, false, not, List, T, get_or}
use Rattle.std.proofs.Math.Path.{refl}
use Rattle.std.proofs.Common.{sym, ap, ◌∙◌, T_not}
use Rattle.std.proofs.Math.Option.{Option, none, some}
use Rattle.std.proofs.Math.Dec.{not_T}
use Rattle.combine.specs.Verdict.{Verdict, refused}
use Rattle.combine.specs.Laws.Verdict.{Refuses}
use Rattle.combine.specs.Laws.SameBut.{SameBut, keep, skip, but-on_done, but_same}
use Rattle.names.specs.Names.{name_of}
use Rattle.rules.specs.Calls.{Way, new, work, read, Request, opens, closes, abandons, uses}
use Rattle.rules.specs.Headings.{Heading, Handle}
use Rattle.rules.specs.Effects.{Effect, Use, used, Others}
use Rattle.rules.specs.Access.{acting}
use Rattle.rules.specs.Rules.{busy, look_up, open_record, open_old, open_way, rule}
use Rattle.rules.specs.Laws.Acts.{move_to, SameUse, acting-same}
use Rattle.demands.specs.Abandoning.{crowded}
use Rattle.proof_demand3.specs.Eased.{Eased}

-- neither 9 nor 14
abbrev pub Calm : ℕ → Type 0
Calm n = T (not (crowded (refused n)))

-- the same, unless the first is refused by 9 or 14
abbrev Same : Verdict Effect → Verdict Effect → Type 0
Same = SameBut Calm (λ n. Unit {0}) ◌≡◌

-- ---- a record is opened

busy-eased : (w : Bool) (p : ℕ) (o q : Others) → Eased o q → T (busy w p q) → T (busy w p o)
busy-eased true p o q e t = e.opened p t
busy-eased false p o q e t = e.worked p t

module _ (u : ℕ) (o q : Others) (e : Eased o q) where
  record-eased : (w : Bool) (p : ℕ) (r : Option Heading) → Same (open_record w u p r o) (open_record w u p r q)
  record-eased w p none = λ k l. refl
  record-eased w p (some r) =
      keep _ _ _ 13 _ _ _ _ refl (λ t. skip _ _ _ 14 _ _ _ _ (λ k. absurd k) (λ t k. not_T (busy w p q) (λ b. T_not (busy w p o) t (busy-eased w p o q e b))) (λ t s. refl))

  old-eased : (w : Bool) (n : List ℕ) (rs : List (Option Heading)) → Same (open_old w u n rs o) (open_old w u n rs q)
  unfolding open_old
  old-eased w n rs = keep _ _ _ 15 _ _ _ _ refl (λ t. record-eased w (look_up u n rs) (get_or rs (look_up u n rs) none))

  way-eased : (w : Way) (rs : List (Option Heading)) → Refuses Calm (open_way w u rs o) → open_way w u rs q ≡ open_way w u rs o
  way-eased (new s) rs c = refl
  way-eased (work n) rs c = but_same Calm _ _ (old-eased true (name_of n) rs) c
  way-eased (read n) rs c = but_same Calm _ _ (old-eased false (name_of n) rs) c

  -- ---- an open file is used

  -- a use leaves the place
  same_place : (h : Handle) (s t : Use) → SameUse h h.place s t → used s ≡ used t
  same_place h s t k = ap used (stays ∙ sym k.1)
    where
      stays : s ≡ move_to h.place s
      stays = λ i. record {
        told = s.told;
        handle = record { place = k.0 i; permit = s.handle.permit; name = s.handle.name; species = s.handle.species; pointers = s.handle.pointers };
        deed = s.deed;
      }

  -- ---- any request

  pub rule-eased : (r : Request) (rs : List (Option Heading)) (x : Option Handle) (takes : ℕ → Bool) → Refuses Calm (rule r u rs x takes o) → rule r u rs x takes q ≡ rule r u rs x takes o
  rule-eased (opens w) rs none takes c = way-eased w rs c
  rule-eased (opens w) rs (some h) takes c = refl
  rule-eased (closes b) rs none takes c = refl
  rule-eased (closes b) rs (some h) takes c = refl
  rule-eased abandons rs none takes c = refl
  rule-eased abandons rs (some h) takes c = refl
  rule-eased (uses a) rs none takes c = refl
  rule-eased (uses a) rs (some h) takes c =
      but_same Calm _ _
      (but-on_done Calm (λ n. Unit {0}) (SameUse h h.place) ◌≡◌ used used (acting a takes o.room h) (acting a takes q.room h) (same_place h)
      (acting-same Calm (λ n. Unit {0}) h h.place takes o.room q.room (λ k. k) (λ k. e.room) a)) c
