-- Segments among which styles nest are read as these styles, each a node round what is inside it.
use Rattle.std.proofs.Common.{arith, ◌≡◌, ℕ, ◌+◌, ◌-◌, ◌<◌, ◌≤◌, Bool, true, false, List, [], ◌∷◌, ◌++◌, length, take, drop, refl, sym, ap, ◌∙◌, subst, append_assoc, length-append, drop-drop, Option}
use Rattle.std.specs.Prelude.{if◌then◌else◌, nat_le}
use Rattle.wt_span.specs.Items.{Item}
use Rattle.wt_quotes.specs.declared.style.Style.{Style}
use Rattle.wt_quotes.specs.Forest.{Forest, bare, grown, lies_in, inside_of, past, forest_of}
use Rattle.wt_quotes.specs.Styles.{width}
use Rattle.wt_quotes.proofs.Counting.{and_false, le_yes, le_no}
use Rattle.wt_inline.specs.ItemTree.{plain, inner, forest}
use Rattle.wt_inline.specs.Parts.{Part, node, children}
use Rattle.wt_context.specs.Segments.{Segment, segment_items, segment_parts}
use Rattle.wt_context.specs.Styled.{style_kind, between, styled, with_styles}
use Rattle.wt_context.proofs.Quoting.{and_both}
use Rattle.wt_beside_laws.specs.Nests.{Nest, stretch, enclosing, marks_of, segments_of, nest_segments, nest_parts, IsNest}
use Rattle.wt_beside_laws.proofs.Styled.NestRuns.{nest_length, marks_long}
use Rattle.wt_beside_laws.proofs.Styled.NestStyles.{style_at, nest_styles, nest_style_tree}

-- ---- the forest of these styles, before other trees

abbrev nest_forest : ℕ → Nest → Forest → Forest
nest_forest at (stretch us) g = g
nest_forest at (enclosing origin us kind inside after) g =
    grown (style_at kind (at + length us) (nest_length inside)) (nest_forest (at + length us + width kind) inside bare)
    (nest_forest (at + length us + width kind + nest_length inside + width kind) after g)

-- the first tree doesn't end before this place
abbrev EndsFrom : ℕ → Forest → Type 0
EndsFrom low bare = Unit {0}
EndsFrom low (grown u f g) = low ≤ u.to

ends_less : (a b : ℕ) (g : Forest) → a ≤ b → EndsFrom b g → EndsFrom a g
ends_less a b bare l e = tt
ends_less a b (grown u f g) l e = omega (arith, l, e)

ends_in : (n : Nest) (at : ℕ) (g : Forest) → EndsFrom (at + nest_length n) g → EndsFrom at (nest_forest at n g)
ends_in (stretch us) at g e = ends_less at (at + length us) g (omega arith) e
ends_in (enclosing origin us kind inside after) at g e = omega arith

wide : (kind : Bool) → 0 < width kind
wide true = omega arith
wide false = omega arith

record Split (s : Style) (n : Nest) (at : ℕ) (g : Forest) : Type 0 where
  inside : inside_of s (nest_forest at n g) ≡ nest_forest at n bare
  behind : past s (nest_forest at n g) ≡ g

split : (s : Style) (n : Nest) (at : ℕ) (g : Forest) → s.from + s.open_w ≤ at → at + nest_length n + s.close_w ≤ s.to → 0 < s.close_w → EndsFrom s.to g
    → Split s n at g
split s (stretch us) at bare a b w e = record { inside = refl; behind = refl }
split s (stretch us) at (grown u f g) a b w e =
    let no : lies_in u s ≡ false =
    and_false (nat_le (s.from + s.open_w) u.from) (nat_le (u.to + s.close_w) s.to) (le_no (u.to + s.close_w) s.to (omega (arith, w, e))) in
    record {
      inside = ap (λ (t : Bool). if t then grown u f (inside_of s g) else bare) no;
      behind = ap (λ (t : Bool). if t then past s g else grown u f g) no;
    }
split s (enclosing origin us kind inside after) at g a b w e =
    let p : ℕ = at + length us in
    let t : ℕ = p + width kind + nest_length inside + width kind in
    let u : Style = style_at kind p (nest_length inside) in
    let held : Forest = nest_forest (p + width kind) inside bare in
    let all : Forest = nest_forest t after g in
    let low : s.from + s.open_w ≤ p = omega (arith, a) in
    let high : t + s.close_w ≤ s.to = omega (arith, b) in
    let yes : lies_in u s ≡ true =
    and_both (nat_le (s.from + s.open_w) p) (nat_le (t + s.close_w) s.to) (le_yes (s.from + s.open_w) p low) (le_yes (t + s.close_w) s.to high) in
    let start : s.from + s.open_w ≤ t = omega (arith, a) in
    let end : t + nest_length after + s.close_w ≤ s.to = omega (arith, b) in
    let r = split s after t g start end w e in
    record {
      inside = ap (λ (x : Bool). if x then grown u held (inside_of s all) else bare) yes ∙ ap (grown u held) r.inside;
      behind = ap (λ (x : Bool). if x then past s all else grown u held all) yes ∙ r.behind;
    }

nest_grown : (n : Nest) (at : ℕ) (ss : List Style) → EndsFrom (at + nest_length n) (forest_of ss) → forest_of (nest_styles at n ss) ≡ nest_forest at n (forest_of ss)
nest_grown (stretch us) at ss e = refl
nest_grown (enclosing origin us kind inside after) at ss e =
    let p : ℕ = at + length us in
    let q : ℕ = p + width kind in
    let r : ℕ = q + nest_length inside in
    let t : ℕ = r + width kind in
    let s : Style = style_at kind p (nest_length inside) in
    let g : Forest = forest_of ss in
    let all : Forest = nest_forest t after g in
    let last : t + nest_length after ≤ at + (length us + width kind + nest_length inside + width kind + nest_length after) = omega arith in
    let own : EndsFrom (t + nest_length after) g =
    ends_less (t + nest_length after) (at + (length us + width kind + nest_length inside + width kind + nest_length after)) g last e in
    let later : forest_of (nest_styles t after ss) ≡ all = nest_grown after t ss own in
    let ends : EndsFrom t all = ends_in after t g own in
    let less : r ≤ t = omega arith in
    let more : forest_of (nest_styles q inside (nest_styles t after ss)) ≡ nest_forest q inside all =
    nest_grown inside q (nest_styles t after ss) (subst (EndsFrom r) (sym later) (ends_less r t all less ends)) ∙ ap (nest_forest q inside) later in
    let starts : q ≤ q = omega arith in
    let stops : r + width kind ≤ t = omega arith in
    let cut : Split s inside q all = split s inside q all starts stops (wide kind) ends in
    ap (λ f. grown s (inside_of s f) (past s f)) more
    ∙ ap (λ f. grown s f (past s (nest_forest q inside all))) cut.inside
    ∙ ap (grown s (nest_forest q inside bare)) cut.behind

-- ---- where they are among the segments

front_taken : (us vs : List Segment) → take (length us) (us ++ vs) ≡ us
front_taken [] vs = refl
front_taken (u ∷ us) vs = ap (λ ws. u ∷ ws) (front_taken us vs)

front_dropped : (us vs : List Segment) → drop (length us) (us ++ vs) ≡ vs
front_dropped [] [] = refl
front_dropped [] (v ∷ vs) = refl
front_dropped (u ∷ us) vs = front_dropped us vs

drop_none : (us : List Segment) → drop 0 us ≡ us
drop_none [] = refl
drop_none (u ∷ us) = refl

drop_behind : (all us vs : List Segment) (j k : ℕ) → drop j all ≡ us ++ vs → k ≡ j + length us → drop k all ≡ vs
drop_behind all us vs j k h e =
    ap (λ (m : ℕ). drop m all) e ∙ sym (drop-drop (length us) j all) ∙ ap (drop (length us)) h ∙ front_dropped us vs

between_is : (all us vs : List Segment) (j k : ℕ) → drop j all ≡ us ++ vs → k ≡ j + length us → between j k all ≡ us
between_is all us vs j k h e =
    let z : k - j ≡ length us = omega (arith, e) in
    ap (λ (m : ℕ). take m (drop j all)) z ∙ ap (take (length us)) h ∙ front_taken us vs

-- all segments of a nest, whatever follows them
record HasFront (n : Nest) : Type 0 where
  segments : List Segment
  long : length segments ≡ nest_length n
  are : (vs : List Segment) → nest_segments n vs ≡ segments ++ vs

nest_front : (n : Nest) → HasFront n
nest_front (stretch us) = record { segments = us; long = refl; are = λ vs. refl }
nest_front (enclosing origin us kind inside after) =
    let i = nest_front inside in
    let a = nest_front after in
    let m : List Segment = segments_of origin kind in
    record {
      segments = us ++ (m ++ (i.segments ++ (m ++ a.segments)));
      long =
          let e1 = length-append us (m ++ (i.segments ++ (m ++ a.segments))) in
          let e2 = length-append m (i.segments ++ (m ++ a.segments)) in
          let e3 = length-append i.segments (m ++ a.segments) in
          let e4 = length-append m a.segments in
          omega (arith, e1, e2, e3, e4, i.long, a.long, marks_long origin kind);
      are = λ vs.
          ap (λ ws. us ++ (m ++ nest_segments inside (m ++ ws))) (a.are vs)
          ∙ ap (λ ws. us ++ (m ++ ws)) (i.are (m ++ (a.segments ++ vs)))
          ∙ ap (λ ws. us ++ (m ++ (i.segments ++ ws))) (sym (append_assoc m a.segments vs))
          ∙ ap (λ ws. us ++ (m ++ ws)) (sym (append_assoc i.segments (m ++ a.segments) vs))
          ∙ ap (λ ws. us ++ ws) (sym (append_assoc m (i.segments ++ (m ++ a.segments)) vs))
          ∙ sym (append_assoc us (m ++ (i.segments ++ (m ++ a.segments))) vs);
    }

drop_nest : (all : List Segment) (n : Nest) (vs : List Segment) (j k : ℕ) → drop j all ≡ nest_segments n vs → k ≡ j + nest_length n → drop k all ≡ vs
drop_nest all n vs j k h e =
    let f = nest_front n in
    let z : k ≡ j + length f.segments = omega (arith, e, f.long) in
    drop_behind all f.segments vs j k (h ∙ f.are vs) z

-- ---- as nodes

marks_items : (origin : Option ℕ) (kind : Bool) → segment_items (segments_of origin kind) ≡ marks_of origin kind
marks_items origin true = refl
marks_items origin false = refl

nest_styled : (all : List Segment) (n : Nest) (vs : List Segment) (low high : ℕ) → drop low all ≡ nest_segments n vs → high ≡ low + nest_length n
    → styled low high (nest_forest low n bare) all ≡ nest_parts n
nest_styled all (stretch us) vs low high h e = ap segment_parts (between_is all us vs low high h e)
nest_styled all (enclosing origin us kind inside after) vs low high h e =
    let p : ℕ = low + length us in
    let q : ℕ = p + width kind in
    let r : ℕ = q + nest_length inside in
    let t : ℕ = r + width kind in
    let m : List Segment = segments_of origin kind in
    let later : List Segment = m ++ nest_segments after vs in
    let held : List Segment = nest_segments inside later in
    let open_long : q ≡ p + length m = omega (arith, marks_long origin kind) in
    let close_long : t ≡ r + length m = omega (arith, marks_long origin kind) in
    let back : t - width kind ≡ r = omega arith in
    let inner_end : t - width kind ≡ q + nest_length inside = back in
    let end : high ≡ t + nest_length after = omega (arith, e) in
    let opens : drop p all ≡ m ++ held = drop_behind all us (m ++ held) low p h refl in
    let holds : drop q all ≡ held = drop_behind all m held p q opens open_long in
    let closes : drop r all ≡ later = drop_nest all inside later q r holds refl in
    let follows : drop t all ≡ nest_segments after vs = drop_behind all m (nest_segments after vs) r t closes close_long in
    let own : List Part = styled q (t - width kind) (nest_forest q inside bare) all in
    let rest : List Part = styled t high (nest_forest t after bare) all in
    let before : between low p all ≡ us = between_is all us (m ++ held) low p h refl in
    let opening : segment_items (between p q all) ≡ marks_of origin kind = ap segment_items (between_is all m held p q opens open_long) ∙ marks_items origin kind in
    let closing : segment_items (between (t - width kind) t all) ≡ marks_of origin kind =
    ap (λ (j : ℕ). segment_items (between j t all)) back ∙ ap segment_items (between_is all m (nest_segments after vs) r t closes close_long) ∙ marks_items origin kind in
    ap (λ ws. segment_parts ws ++ (node (inner (plain (style_kind kind)) (segment_items (between p q all)) (forest (children own)) (segment_items (between (t - width kind) t all))) ∷ rest)) before
    ∙ ap (λ (xs : List Item). segment_parts us ++ (node (inner (plain (style_kind kind)) xs (forest (children own)) (segment_items (between (t - width kind) t all))) ∷ rest)) opening
    ∙ ap (λ (xs : List Item). segment_parts us ++ (node (inner (plain (style_kind kind)) (marks_of origin kind) (forest (children own)) xs) ∷ rest)) closing
    ∙ ap (λ (ps : List Part). segment_parts us ++ (node (inner (plain (style_kind kind)) (marks_of origin kind) (forest (children ps)) (marks_of origin kind)) ∷ rest))
    (nest_styled all inside later q (t - width kind) holds inner_end)
    ∙ ap (λ (ps : List Part). segment_parts us ++ (node (inner (plain (style_kind kind)) (marks_of origin kind) (forest (children (nest_parts inside))) (marks_of origin kind)) ∷ ps))
    (nest_styled all after vs t high follows end)

pub nests_read : (n : Nest) → IsNest false false n [] → with_styles (nest_segments n []) ≡ nest_parts n
unfolding with_styles
nests_read n h =
    let us : List Segment = nest_segments n [] in
    let f = nest_front n in
    let none = length-append f.segments [] in
    let long : length us ≡ 0 + nest_length n = ap length (f.are []) ∙ (let z : length (f.segments ++ []) ≡ 0 + nest_length n = omega (arith, none, f.long) in z) in
    ap (λ ss. styled 0 (length us) (forest_of ss) us) (nest_style_tree n h)
    ∙ ap (λ g. styled 0 (length us) g us) (nest_grown n 0 [] tt)
    ∙ nest_styled us n [] 0 (length us) (drop_none us) long
