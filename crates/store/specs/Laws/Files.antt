-- The laws of a file's elements: st is the store's cells, gs the file's segments, s its species, b its begin, e its end. Assumes nothing.
use Prim.Native.Nat.{ℕ, suc, ◌+◌, ◌-◌, ◌%◌, ◌^◌, ◌≤◌, ◌<◌}
use Rattle.std.specs.Prelude.{◌≡◌, ◌≢◌, length, drop}
use Rattle.std.proofs.Math.Path.{sym, ap}
use Rattle.std.proofs.Common.{◌∙◌, get_or-drop}
use Rattle.std.proofs.Math.Logic.{⊎_elim}
use mathlib.Core.List.{List, [], ◌∷◌, ◌++◌}
use native.Mathlib.Omega.{arith}
use Rattle.std.proofs.Math.ListN.{get_or}
use Rattle.combine.specs.Laws.Numbers.{eq-or-ne}
use Rattle.combine.specs.Lists.{put, tab}
use Rattle.combine.specs.Laws.Lists.{length-tab, tab-at, tab-cong, tab-set}
use Rattle.placing.specs.declared.Segment.{Segment}
use Rattle.placing.specs.Sizes.{greatest_species, width_of}
use Rattle.placing.specs.Placing.{segment, position, stretch_of, slot_of}
use Rattle.placing.specs.Laws.Sized.{stretch-mono}
use Rattle.store.specs.Store.{element_at, put_element, zeroed, copied, segment_of, elements_in}
use Rattle.combine.specs.Laws.Put.{tab-first, tab-last, put-within, get_or-put-same, get_or-put-other}
use Rattle.store.specs.Laws.Elements.{Within, Outside, element-elsewhere, put_same, put-beside, put-elsewhere, zeroed-elsewhere, copied-element, copied-elsewhere}

-- the element at position x of the file
abbrev pub element_in : List ℕ → List ℕ → ℕ → ℕ → ℕ → ℕ
element_in st gs s b x = element_at st s (segment (segment_of gs s b x)) (position x)

-- the store with that element replaced
abbrev pub put_in : List ℕ → List ℕ → ℕ → ℕ → ℕ → ℕ → List ℕ
put_in st gs s b x n = put_element st s (segment (segment_of gs s b x)) (position x) n

-- no two of the first k segments of a list are the same
abbrev pub NoneTwice : List ℕ → ℕ → Type 0
NoneTwice gs k = (i j : ℕ) → i < k → j < k → get_or gs i 0 ≡ get_or gs j 0 → i ≡ j

-- none of the file's positions lies in segment g
abbrev pub Unlisted : List ℕ → ℕ → ℕ → ℕ → Segment → Type 0
Unlisted gs s b e g = (x : ℕ) → b ≤ x → x < e → segment_of gs s b x ≢ g.0

-- ---- the file's segments

pub place_mono : (s : ℕ) → s ≤ greatest_species → (b x y : ℕ) → x ≤ y → slot_of s b x ≤ slot_of s b y
unfolding slot_of
place_mono s h b x y l = let m = stretch-mono s h x y l in omega arith

-- segment g put at place k of the list
module _ (gs : List ℕ) (s b k g : ℕ) (l : k ≤ length gs) (x : ℕ) where
  pub segment-put : slot_of s b x ≡ k → segment_of (put gs k g) s b x ≡ g
  unfolding segment_of
  segment-put q = ap (λ (i : ℕ). get_or (put gs k g) i 0) q ∙ get_or-put-same gs k g 0 l

  pub segment-kept : slot_of s b x ≢ k → segment_of (put gs k g) s b x ≡ segment_of gs s b x
  unfolding segment_of
  segment-kept d = get_or-put-other gs k (slot_of s b x) g 0 l d

-- the list from the place of position c on
pub segment-dropped : (gs : List ℕ) (s : ℕ) → s ≤ greatest_species → (b c x : ℕ) → b ≤ c → c ≤ x → segment_of (drop (slot_of s b c) gs) s c x ≡ segment_of gs s b x
unfolding segment_of slot_of
segment-dropped gs s h b c x l m =
    let one = stretch-mono s h b c l in
    let two = stretch-mono s h c x m in
    get_or-drop (slot_of s b c) gs (slot_of s c x) 0 ∙ ap (λ (i : ℕ). get_or gs i 0) (omega arith)

-- ---- the list of its elements

pub length-elements : (st gs : List ℕ) (s b e : ℕ) → length (elements_in st gs s b e) ≡ e - b
unfolding elements_in
length-elements st gs s b e = length-tab (e - b) _

pub elements-at : (st gs : List ℕ) (s b e x : ℕ) → b ≤ x → x < e → get_or (elements_in st gs s b e) (x - b) 0 ≡ element_in st gs s b x
unfolding elements_in
elements-at st gs s b e x l m =
    let c : b + (x - b) ≡ x = omega arith in
    tab-at (e - b) (λ i. element_in st gs s b (b + i)) (x - b) 0 (omega arith) ∙ ap (element_in st gs s b) c

-- two files that agree at each position
pub elements-ext : (st st' gs gs' : List ℕ) (s b e : ℕ) → ((x : ℕ) → b ≤ x → x < e → element_in st gs s b x ≡ element_in st' gs' s b x)
    → elements_in st gs s b e ≡ elements_in st' gs' s b e
unfolding elements_in
elements-ext st st' gs gs' s b e h =
    tab-cong (e - b) (λ i. element_in st' gs' s b (b + i)) (λ i. element_in st gs s b (b + i)) (λ k l. h (b + k) (omega arith) (omega arith))

-- its last element
pub elements-last : (st gs : List ℕ) (s b e : ℕ) → b ≤ e → elements_in st gs s b (e + 1) ≡ elements_in st gs s b e ++ (element_in st gs s b e ∷ [])
unfolding elements_in
elements-last st gs s b e h =
    let f : ℕ → ℕ = λ i. element_in st gs s b (b + i) in
    let c : e + 1 - b ≡ suc (e - b) = omega arith in
    let c' : b + (e - b) ≡ e = omega arith in
    ap (λ (n : ℕ). tab n f) c ∙ tab-last (e - b) f ∙ ap (λ (x : ℕ). tab (e - b) f ++ (element_in st gs s b x ∷ [])) c'

-- its first: the list of segments loses its first where the begin leaves that stretch
pub elements-first : (st gs : List ℕ) (s b e : ℕ) → s ≤ greatest_species → b < e
    → elements_in st gs s b e ≡ element_in st gs s b b ∷ elements_in st (drop (slot_of s b (b + 1)) gs) s (b + 1) e
unfolding elements_in
elements-first st gs s b e h l =
    let f : ℕ → ℕ = λ i. element_in st gs s b (b + i) in
    let rest : ℕ → ℕ = λ i. element_in st (drop (slot_of s b (b + 1)) gs) s (b + 1) (b + 1 + i) in
    let c : e - b ≡ suc (e - (b + 1)) = omega arith in
    let c' : b + 0 ≡ b = omega arith in
    let next : (i : ℕ) → b + suc i ≡ b + 1 + i = λ i. omega arith in
    let each : (i : ℕ) → f (suc i) ≡ rest i = λ i. ap (element_in st gs s b) (next i) ∙ ap (λ (g : ℕ). element_at st s (segment g) (position (b + 1 + i))) (sym (segment-dropped gs s h b (b + 1) (b + 1 + i) (omega arith) (omega arith))) in
    ap (λ (n : ℕ). tab n f) c ∙ tab-first (e - (b + 1)) f ∙ (λ j. element_in st gs s b (c' j) ∷ tab-cong (e - (b + 1)) rest (λ i. f (suc i)) (λ i _. each i) j)

-- ---- a put

module _ (st gs : List ℕ) (s : ℕ) (h : s ≤ greatest_species) (b : ℕ) (hb : 1 ≤ b) (k : ℕ) (once : NoneTwice gs k) where
  -- at position x: the others keep their elements
  pub put_other : (x y n : ℕ) → b ≤ x → b ≤ y → y ≢ x → slot_of s b x < k → slot_of s b y < k → Within (segment (segment_of gs s b x)) st
      → element_in (put_in st gs s b x n) gs s b y ≡ element_in st gs s b y
  unfolding segment_of slot_of
  put_other x y n bx by ne hx hy l =
      let mx = stretch-mono s h b x bx in
      let my = stretch-mono s h b y by in
      let g : ℕ → Segment = λ q. segment (get_or gs (q - stretch_of s b) 0) in
      ⊎_elim
      (λ q. ap (λ (t : ℕ). element_at (put_in st gs s b x n) s (g t) (position y)) (sym q)
      ∙ put-beside st s h (g (stretch_of s x)) (position x) n (position y) l (omega arith) (omega arith) q ne
      ∙ ap (λ (t : ℕ). element_at st s (g t) (position y)) q)
      (λ d. put-elsewhere st s h (g (stretch_of s x)) (position x) n s h (g (stretch_of s y)) (position y) (λ q. d (omega (arith, once _ _ hx hy (sym q)))))
      (eq-or-ne (stretch_of s x) (stretch_of s y))

  -- at the end: one more element
  pub append-elements : (e n : ℕ) → b ≤ e → slot_of s b e < k → Within (segment (segment_of gs s b e)) st
      → elements_in (put_in st gs s b e n) gs s b (e + 1) ≡ elements_in st gs s b e ++ (n % 2 ^ width_of s ∷ [])
  append-elements e n be he l =
      let st' : List ℕ = put_in st gs s b e n in
      let before : (x : ℕ) → x < e → slot_of s b x < k = λ x xe. (let m = place_mono s h b x e (omega arith) in omega arith) in
      elements-last st' gs s b e be
      ∙ (λ j. elements-ext st' st gs gs s b e (λ x bx xe. put_other e x n be bx (λ q. omega arith) he (before x xe) l) j ++ (put_same st s h (segment (segment_of gs s b e)) (position e) n l j ∷ []))

  -- at a position of the file: that element replaced
  pub replace-elements : (e x n : ℕ) → b ≤ x → x < e → slot_of s b (e - 1) < k → Within (segment (segment_of gs s b x)) st
      → elements_in (put_in st gs s b x n) gs s b e ≡ put (elements_in st gs s b e) (x - b) (n % 2 ^ width_of s)
  unfolding elements_in
  replace-elements e x n bx xe he l =
      let st' : List ℕ = put_in st gs s b x n in
      let f : ℕ → ℕ = λ i. element_in st gs s b (b + i) in
      let v : ℕ = n % 2 ^ width_of s in
      let c : b + (x - b) ≡ x = omega arith in
      let held : (y : ℕ) → y < e → slot_of s b y < k = λ y ye. (let m = place_mono s h b y (e - 1) (omega arith) in omega arith) in
      tab-set (e - b) f (λ i. element_in st' gs s b (b + i)) (x - b) v (omega arith)
      (ap (element_in st' gs s b) c ∙ put_same st s h (segment (segment_of gs s b x)) (position x) n l)
      (λ i r d. put_other x (b + i) n bx (omega arith) (λ q. d (omega arith)) (held x xe) (held (b + i) (omega arith)) l)
      ∙ sym (put-within (tab (e - b) f) (x - b) v (omega (arith, length-tab (e - b) f)))

-- ---- a segment that the file does not list

pub elements-kept : (st st' gs : List ℕ) (s : ℕ) → s ≤ greatest_species → (b e : ℕ) (g : Segment) → ((k : ℕ) → Outside g k → get_or st' k 0 ≡ get_or st k 0)
    → Unlisted gs s b e g → elements_in st' gs s b e ≡ elements_in st gs s b e
elements-kept st st' gs s h b e g kept free =
    elements-ext st' st gs gs s b e (λ x l m. element-elsewhere st st' s h g (segment (segment_of gs s b x)) (position x) kept (free x l m))

module _ (st gs : List ℕ) (s : ℕ) (h : s ≤ greatest_species) (b e k : ℕ) (g : Segment) (l : Within g st) (free : Unlisted gs s b e g) where
  -- the segment at place k is copied to g, which is then listed for it
  pub elements-copied : k < length gs → Within (segment (get_or gs k 0)) st → elements_in (copied st (segment (get_or gs k 0)) g) (put gs k g.0) s b e ≡ elements_in st gs s b e
  unfolding segment_of
  elements-copied hk m =
      let f : Segment = segment (get_or gs k 0) in
      let st' : List ℕ = copied st f g in
      let at : ℕ → ℕ → ℕ = λ x i. element_at st' s (segment i) (position x) in
      elements-ext st' st (put gs k g.0) gs s b e
      (λ x bx xe.
      ⊎_elim
      (λ q. ap (at x) (segment-put gs s b k g.0 (omega arith) x q) ∙ copied-element st f g m l s h (position x) ∙ ap (λ (i : ℕ). element_at st s (segment (get_or gs i 0)) (position x)) (sym q))
      (λ d. ap (at x) (segment-kept gs s b k g.0 (omega arith) x d) ∙ copied-elsewhere st f g m l s h (segment (segment_of gs s b x)) (position x) (free x bx xe))
      (eq-or-ne (slot_of s b x) k))

  -- g is zeroed, and is then listed at place k for a stretch past the file's positions
  pub elements-taken : k ≤ length gs → ((x : ℕ) → b ≤ x → x < e → slot_of s b x ≢ k) → elements_in (zeroed st g) (put gs k g.0) s b e ≡ elements_in st gs s b e
  elements-taken hk past =
      elements-ext (zeroed st g) st (put gs k g.0) gs s b e
      (λ x bx xe. ap (λ (i : ℕ). element_at (zeroed st g) s (segment i) (position x)) (segment-kept gs s b k g.0 hk x (past x bx xe))
      ∙ zeroed-elsewhere st g l s h (segment (segment_of gs s b x)) (position x) (free x bx xe))
