-- Segments with styles, one style more.
use Rattle.std.proofs.Common.{◌≡◌, ℕ, ◌+◌, ◌-◌, ◌<◌, ◌≤◌, None, false, List, [], ◌∷◌, ◌++◌, length, take, drop, get_or, refl, sym, ap, ◌∙◌, subst, arith, append_assoc, append-nil, drop-drop, length-drop}
use Rattle.std.proofs.lemmas.List.{drop_more, length-take-le}
use Rattle.wt_quotes.specs.declared.style.Style.{Style}
use Rattle.wt_quotes.specs.Forest.{Forest, grown, past, forest_of}
use Rattle.wt_span.specs.Items.{Item}
use Rattle.wt_inline.specs.ItemTree.{ItemTree, plain, inner as inner_tree, forest}
use Rattle.wt_inline.specs.Parts.{Part, node, children}
use Rattle.wt_inline.specs.Grown.{Grown, Grows, made}
use Rattle.wt_context.specs.Segments.{Segment, segment_items, segment_parts}
use Rattle.wt_context.specs.Styled.{style_kind, between, style_node, styled}
use Rattle.wt_context.specs.Styling.{Fill, IsStyle, AreStyled}
use Rattle.wt_context.proofs.Forests.{inner, inside_taken, past_dropped}

-- what is done of styles: `left` are still to come from a place on
abbrev pub AreLeft : ℕ → ℕ → List Style → List Segment → Grown → ℕ → List Style → List Segment → Grown → Type 0
AreLeft low high ss before g place left after h =
    (us : List Segment) → drop low us ≡ before → (drop place us ≡ after)
    × ((ps : List Part) → made h (styled place high (forest_of left) us ++ ps) ≡ made g (styled low high (forest_of ss) us ++ ps))

pub none_done : (low high : ℕ) (ss : List Style) (before : List Segment) (g : Grown) → AreLeft low high ss before g low ss before g
none_done low high ss before g us e = (e, λ ps. refl)

-- the first style of a list with those that lie in it, and the others
pub first_forest : (s : Style) (later : List Style) (n : ℕ) → n ≡ inner s later
    → forest_of (s ∷ later) ≡ grown s (forest_of (take n later)) (forest_of (drop n later))
first_forest s later n e =
    ap (λ f. grown s f (past s (forest_of later))) (inside_taken s later ∙ ap (λ k. forest_of (take k later)) (sym e))
    ∙ ap (λ f. grown s (forest_of (take n later)) f) (past_dropped s later ∙ ap (λ k. forest_of (drop k later)) (sym e))

at_first : (ss later : List Style) (at : ℕ) (d : Style) → at < length ss → later ≡ drop (at + 1) ss → drop at ss ≡ get_or ss at d ∷ later
at_first ss later at d l e = drop_more ss at d l ∙ ap (λ ts. get_or ss at d ∷ ts) (sym e)

-- the forest from a place in the list on
pub forest_at : (ss later ins : List Style) (at n : ℕ) (d : Style) → at < length ss → later ≡ drop (at + 1) ss → n ≡ inner (get_or ss at d) later
    → ins ≡ take n later
    → forest_of (drop at ss) ≡ grown (get_or ss at d) (forest_of ins) (forest_of (drop (at + (1 + n)) ss))
forest_at ss later ins at n d l e i f =
    let s = get_or ss at d in
    let z : at + 1 + n ≡ at + (1 + n) = omega arith in
    ap forest_of (at_first ss later at d l e) ∙ first_forest s later n i
    ∙ ap (λ ts. grown s (forest_of ts) (forest_of (drop n later))) (sym f)
    ∙ ap (λ ts. grown s (forest_of ins) (forest_of ts)) (ap (drop n) e ∙ drop-drop n (at + 1) ss ∙ ap (λ k. drop k ss) z)

-- fewer styles lie in one than stand from it on
pub fewer : (ss later ins : List Style) (at n : ℕ) → at < length ss → later ≡ drop (at + 1) ss → ins ≡ take n later → n ≤ length later → length ins < length ss
fewer ss later ins at n l e f w =
    let a = ap length e in
    let b = ap length f in
    omega (arith, a, b, length-drop (at + 1) ss, length-take-le n later w)

pub fill_at : (low high : ℕ) (f g : Forest) → f ≡ g → Fill low high f → Fill low high g
fill_at low high f g e h = subst (Fill low high) e h

-- one style more
pub left_step : (low high place : ℕ) (ss left more ins : List Style) (s : Style) (before mid after : List Segment) (g h i : Grown)
    → forest_of left ≡ grown s (forest_of ins) (forest_of more)
    → IsStyle place s ins mid h after i → AreLeft low high ss before g place left mid h → AreLeft low high ss before g s.to more after i
left_step low high place ss left more ins s before mid after g h i e a t us b =
    let old = t us b in
    let new = a us old.0 in (
      new.1,
      λ ps.
          let front = segment_parts (between place s.from us) in
          let nd = node (style_node s (styled (s.from + s.open_w) (s.to - s.close_w) (forest_of ins) us) us) in
          let rest = styled s.to high (forest_of more) us in
          new.0 (rest ++ ps)
          ∙ ap (made h) (append_assoc front (nd ∷ []) (rest ++ ps) ∙ sym (append_assoc front (nd ∷ rest) ps) ∙ ap (λ f. styled place high f us ++ ps) (sym e))
          ∙ old.1 ps,
    )

take_between : (low high : ℕ) (us before : List Segment) → drop low us ≡ before → between low high us ≡ take (high - low) before
take_between low high us before e = ap (take (high - low)) e

-- no style is left
pub left_done : (low high place : ℕ) (ss left : List Style) (before mid after : List Segment) (g h i : Grown) → left ≡ [] → place ≤ high
    → Grows h (segment_parts (take (high - place) mid)) i → after ≡ drop (high - place) mid → AreLeft low high ss before g place left mid h
    → AreStyled low high ss before g after i
left_done low high place ss left before mid after g h i e le a d t us b =
    let old = t us b in
    let z : high - place + place ≡ high = omega (arith, le) in
    let y : place + (high - place) ≡ high = omega (arith, le) in (
      λ ps. a ps ∙ ap (λ xs. made h (segment_parts (take (high - place) xs) ++ ps)) (sym old.0)
          ∙ ap (λ ts. made h (styled place high (forest_of ts) us ++ ps)) (sym e) ∙ old.1 ps,
      ap (λ k. drop k us) (sym y) ∙ sym (drop-drop (high - place) place us) ∙ ap (drop (high - place)) old.0 ∙ sym d,
    )

-- the parts of a style, one after another
pub style_made : (low : ℕ) (s : Style) (ss : List Style) (b0 b1 b2 b3 b4 : List Segment) (g h k m : Grown) (t : ItemTree) (opening closing : List Item)
    → low ≤ s.from → s.close_w ≤ s.to → s.from + s.open_w ≤ s.to - s.close_w
    → Grows g (segment_parts (take (s.from - low) b0)) h → b1 ≡ drop (s.from - low) b0
    → opening ≡ segment_items (take s.open_w b1) → b2 ≡ drop s.open_w b1
    → AreStyled (s.from + s.open_w) (s.to - s.close_w) ss b2 (record { trees = []; run = None }) b3 k
    → closing ≡ segment_items (take s.close_w b3) → b4 ≡ drop s.close_w b3
    → t ≡ inner_tree (plain (style_kind s.bold)) opening (forest (made k [])) closing → Grows h (node t ∷ []) m
    → IsStyle low s ss b0 g b4 m
style_made low s ss b0 b1 b2 b3 b4 g h k m t opening closing l0 l1 l2 a1 e1 o e2 a3 c e4 it a4 us b =
    let n1 : low + (s.from - low) ≡ s.from = omega (arith, l0) in
    let n4 : s.to - s.close_w + s.close_w ≡ s.to = omega (arith, l1) in
    let w1 : s.from + s.open_w - s.from ≡ s.open_w = omega arith in
    let w4 : s.to - (s.to - s.close_w) ≡ s.close_w = omega (arith, l1) in
    let d1 : drop s.from us ≡ b1 = ap (λ n. drop n us) (sym n1) ∙ sym (drop-drop (s.from - low) low us) ∙ ap (drop (s.from - low)) b ∙ sym e1 in
    let d2 : drop (s.from + s.open_w) us ≡ b2 = sym (drop-drop s.open_w s.from us) ∙ ap (drop s.open_w) d1 ∙ sym e2 in
    let inside = a3 us d2 in
    let d4 : drop s.to us ≡ b4 = ap (λ n. drop n us) (sym n4) ∙ sym (drop-drop s.close_w (s.to - s.close_w) us) ∙ ap (drop s.close_w) inside.1 ∙ sym e4 in
    let op : opening ≡ segment_items (between s.from (s.from + s.open_w) us) = o ∙ ap (λ xs. segment_items (take s.open_w xs)) (sym d1)
    ∙ ap (λ n. segment_items (take n (drop s.from us))) (sym w1) in
    let cl : closing ≡ segment_items (between (s.to - s.close_w) s.to us) = c ∙ ap (λ xs. segment_items (take s.close_w xs)) (sym inside.1)
    ∙ ap (λ n. segment_items (take n (drop (s.to - s.close_w) us))) (sym w4) in
    let qs : List Part = styled (s.from + s.open_w) (s.to - s.close_w) (forest_of ss) us in
    let mid : made k [] ≡ children qs = inside.0 [] ∙ ap children (append-nil qs) in
    let tr : t ≡ style_node s qs us =
    it ∙ ap (λ x. inner_tree (plain (style_kind s.bold)) x (forest (made k [])) closing) op
    ∙ ap (λ x. inner_tree (plain (style_kind s.bold)) (segment_items (between s.from (s.from + s.open_w) us)) (forest x) closing) mid
    ∙ ap (λ x. inner_tree (plain (style_kind s.bold)) (segment_items (between s.from (s.from + s.open_w) us)) (forest (children qs)) x) cl in (
      λ ps.
          a4 ps ∙ a1 (node t ∷ ps)
          ∙ ap (λ xs. made g (segment_parts (take (s.from - low) xs) ++ (node t ∷ ps))) (sym b)
          ∙ ap (λ x. made g (segment_parts (between low s.from us) ++ (node x ∷ ps))) tr
          ∙ ap (made g) (sym (append_assoc (segment_parts (between low s.from us)) (node (style_node s qs us) ∷ []) ps)),
      d4,
    )

abbrev pub zero_style : Style
zero_style = record { bold = false; from = 0; open_w = 0; to = 0; close_w = 0 }
