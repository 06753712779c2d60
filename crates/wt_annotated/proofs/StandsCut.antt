-- Children that are known to stand cut do so.
use Rattle.std.proofs.Common.{◌≡◌, ℕ, zero, suc, ◌<◌, ◌≤◌, Bool, true, false, Option, Some, None, List, [], ◌∷◌, length, drop, get_or, refl, sym, ap, ap₂, ◌∙◌, subst, append-nil, arith}
use Rattle.std.specs.Prelude.{◌&&◌, ◌||◌}
use Rattle.wt_span.specs.declared.text.Text.{Text}
use Rattle.wt_span.specs.Slice.{bytes_of}
use Rattle.wt_tree.specs.declared.node.Node.{Node}
use Rattle.wt_recut.specs.Cutting.{begins_with_break, is_sep_at, IsWholeBy, IsWhole, IsFront, StandsBy, AreCut}
use Rattle.wt_tree.specs.Leaves.{sep_leaf, text_leaf}
use Rattle.wt_recut.specs.Recut.{is_blank, is_break, are_spaces, has_break, from_break, front_ranges, rest_ranges, joined_ranges, is_border, is_text, leads_to_block, recut}
use Rattle.wt_recut.specs.Recutting.{is_empty}
use Rattle.wt_tree.specs.Tree.{Tree, Trees, none, more, label}
use Rattle.wt_tree.specs.View.{texts_of, view, views}
use Rattle.wt_recut.proofs.CutOnly.{and_none, begun, cut_alone, or_true, text_border}
use Rattle.wt_annotated.specs.StandsCut.{IsGap, IsWords, WholeStands, FrontStands, AloneStands, BeforeStands, FirstStands}

-- the only one of these texts
pub only_text : (own : List Text) (t : Text) → 1 ≤ length own → length own < 2 → t ≡ get_or own 0 t → texts_of own ≡ bytes_of t
only_text [] t l m e = absurd (omega (arith, l))
only_text (u ∷ []) t l m e = append-nil (bytes_of u) ∙ ap bytes_of (sym e)
only_text (u ∷ v ∷ us) t l m e = absurd (omega (arith, m))

-- the first two of these nodes
pub two_first : (ns : List Node) (a b : Node) (behind : Bool) (r : Option Bool) → 2 ≤ length ns → a ≡ get_or ns 0 a → b ≡ get_or ns 1 b
    → ((ts : Trees) → FirstStands behind (more (view a) (more (view b) ts)) r) → FirstStands behind (views ns) r
two_first [] a b behind r l e f h = absurd (omega (arith, l))
two_first (m ∷ []) a b behind r l e f h = absurd (omega (arith, l))
two_first (m ∷ n ∷ ns) a b behind r l e f h =
    subst (λ t. FirstStands behind (more t (more (view n) (views ns))) r) (ap view e)
    (subst (λ t. FirstStands behind (more (view a) (more t (views ns))) r) (ap view f) (h (views ns)))

-- ---- separators

gap_text : (t : Tree) → IsGap t → is_text t ≡ true
gap_text t h = ap is_text h.0

gap_whole : (behind leads : Bool) (t : Tree) → IsGap t → IsWhole behind leads t
gap_whole behind leads t h =
    let own = (label t).own in
    let e : is_sep_at behind leads own ≡ true =
    ap₂ (λ x y. x && ((behind || (leads && are_spaces own)) || y)) h.1 h.2 ∙ or_true (behind || (leads && are_spaces own)) in
    ((begun own h.2).1, subst (λ x. IsWholeBy x behind (label t).ranges own t) (sym e) h.0)

pub gap_stands : (behind : Bool) (t : Tree) → IsGap t → WholeStands behind t (Some true)
gap_stands behind t h = (
  λ leads. gap_whole behind leads t h,
  sym (ap (λ x. behind || x) (text_border t (gap_text t h) ∙ (begun (label t).own h.2).0) ∙ or_true behind),
)

-- ---- texts

first_none : (a b : Bool) → (a || b) ≡ false → a ≡ false
first_none true b e = absurd (cc e)
first_none false b e = refl

not_begun : (own : List ℕ) → has_break own ≡ false → begins_with_break own ≡ false
not_begun [] e = refl
not_begun (b ∷ bs) e = first_none (is_break b) (has_break bs) e

words_some : (own : List ℕ) → are_spaces own ≡ false → is_empty own ≡ false
words_some [] e = absurd (cc e)
words_some (b ∷ bs) e = refl

words_text : (t : Tree) → IsWords t → is_text t ≡ true
words_text t h = ap is_text h.0

words_border : (t : Tree) → IsWords t → is_border t ≡ false
words_border t h = text_border t (words_text t h) ∙ h.1

words_no_sep : (leads : Bool) (own : List ℕ) → has_break own ≡ false → are_spaces own ≡ false → is_sep_at false leads own ≡ false
words_no_sep leads own e f =
    ap₂ (λ x y. is_blank own && ((leads && x) || y)) f (not_begun own e)
    ∙ ap (λ x. is_blank own && (x || false)) (and_none leads)
    ∙ and_none (is_blank own)

words_whole : (leads : Bool) (t : Tree) → IsWords t → IsWhole false leads t
words_whole leads t h =
    let own = (label t).own in (
      words_some own h.2,
      subst (λ x. IsWholeBy x false (label t).ranges own t) (sym (words_no_sep leads own h.1 h.2))
          (h.0, ap (λ x. x && is_blank (from_break own)) h.1),
    )

pub words_stand : (t : Tree) → IsWords t → WholeStands false t (Some false)
words_stand t h = (λ leads. words_whole leads t h, sym (words_border t h))

-- ---- a text before a separator

pub front_stands : (t s : Tree) → IsWords t → IsGap s
    → (label t).ranges ≡ front_ranges (length (label t).shown) (joined_ranges (label t).ranges (label s).ranges)
    → (label s).ranges ≡ rest_ranges (length (label t).shown) (joined_ranges (label t).ranges (label s).ranges)
    → FrontStands false t s (Some false)
front_stands t s h g e f =
    let r = joined_ranges (label t).ranges (label s).ranges in
    let shown : (label t).shown ≡ (label t).own = ap (λ x. (label x).shown) h.0 in
    let first : (label t).ranges ≡ front_ranges (length (label t).own) r = e ∙ ap (λ bs. front_ranges (length bs) r) shown in
    let next : (label s).ranges ≡ rest_ranges (length (label t).own) r = f ∙ ap (λ bs. rest_ranges (length bs) r) shown in (
      λ ts. (
        refl,
        h.1,
        words_some (label t).own h.2,
        g.2,
        g.1,
        h.0 ∙ ap (λ x. text_leaf x (label t).own) first,
        g.0 ∙ ap (λ x. sep_leaf x (label s).own) next,
      ),
      sym (words_border t h),
    )

-- ---- by what follows

standing : (P Q : Type 0) (x y : Bool) → (x && y) ≡ false → StandsBy x false P (Unit {0}) → StandsBy x y P Q
standing P Q true true e h = absurd (cc e)
standing P Q true false e h = h
standing P Q false y e h = tt

pub other_alone : (behind : Bool) (t : Tree) (now : Bool) → is_text t ≡ false → now ≡ (behind || is_border t) → AloneStands behind t (Some now)
other_alone behind t now e h =
    (λ leads. subst (λ x. StandsBy x false (IsWhole behind leads t) (Unit {0})) (sym e) tt, h)

pub whole_alone : (behind : Bool) (t : Tree) (r : Option Bool) → is_text t ≡ true → WholeStands behind t r → AloneStands behind t r
whole_alone behind t None e h = tt
whole_alone behind t (Some now) e h =
    (λ leads. subst (λ x. StandsBy x false (IsWhole behind leads t) (Unit {0})) (sym e) (h.0 leads), h.1)

pub front_before : (behind : Bool) (t s : Tree) (r : Option Bool) → is_text t ≡ true → is_text s ≡ true → FrontStands behind t s r
    → BeforeStands behind t s r
front_before behind t s None e f h = tt
front_before behind t s (Some now) e f h = (
  λ ts. subst (λ x. StandsBy x (is_text s) (IsWhole behind (leads_to_block (more s ts)) t) (IsFront behind t (more s ts))) (sym e)
      (subst (λ x. StandsBy true x (IsWhole behind (leads_to_block (more s ts)) t) (IsFront behind t (more s ts))) (sym f) (h.0 ts)),
  h.1,
)

pub alone_before : (behind : Bool) (t s : Tree) (r : Option Bool) → (is_text t && is_text s) ≡ false → AloneStands behind t r
    → BeforeStands behind t s r
alone_before behind t s None e h = tt
alone_before behind t s (Some now) e h = (λ ts. standing _ _ (is_text t) (is_text s) e (h.0 (leads_to_block (more s ts))), h.1)

pub alone_first : (behind : Bool) (t : Tree) (r : Option Bool) → AloneStands behind t r → FirstStands behind (more t none) r
alone_first behind t None h = tt
alone_first behind t (Some now) h = (standing _ _ (is_text t) false (and_none (is_text t)) (h.0 false), h.1)

pub before_first : (behind : Bool) (t s : Tree) (ts : Trees) (r : Option Bool) → BeforeStands behind t s r
    → FirstStands behind (more t (more s ts)) r
before_first behind t s ts None h = tt
before_first behind t s ts (Some now) h = (h.0 ts, h.1)

-- ---- all of them

-- where those from a place on stand cut, all do
abbrev pub KnownUpTo : List Node → ℕ → Bool → Type 0
KnownUpTo ns at behind = AreCut behind (views (drop at ns)) → AreCut false (views ns)

one_more : (ns : List Node) (at : ℕ) (behind now : Bool) → at < length ns → FirstStands behind (views (drop at ns)) (Some now)
    → AreCut now (views (drop (suc at) ns)) → AreCut behind (views (drop at ns))
one_more [] at behind now l g h = absurd (omega (arith, l))
one_more (n ∷ ns) zero behind now l g h = (g.0, subst (λ x. AreCut x (views ns)) g.1 h)
one_more (n ∷ ns) (suc at) behind now l g h = one_more ns at behind now (omega (arith, l)) g h

pub known_more : (ns : List Node) (at : ℕ) (behind now : Bool) → at < length ns → FirstStands behind (views (drop at ns)) (Some now)
    → KnownUpTo ns at behind → KnownUpTo ns (suc at) now
known_more ns at behind now l g h k = h (one_more ns at behind now l g k)

nothing_left : (ns : List Node) (at : ℕ) (behind : Bool) → length ns ≡ at → AreCut behind (views (drop at ns))
nothing_left [] zero behind e = tt
nothing_left [] (suc at) behind e = tt
nothing_left (n ∷ ns) zero behind e = absurd (omega (arith, e))
nothing_left (n ∷ ns) (suc at) behind e = nothing_left ns at behind (omega (arith, e))

pub known_all : (ns : List Node) (at : ℕ) (behind : Bool) → length ns ≡ at → KnownUpTo ns at behind → AreCut false (views ns)
known_all ns at behind e h = h (nothing_left ns at behind e)

-- cutting anew leaves them as they are
pub stay : (ts : Trees) → AreCut false ts → ts ≡ recut ts
stay ts h = cut_alone ts ts h refl
