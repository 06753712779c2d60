-- A paragraph of the page with calls: a text in it parts what is beside it, and something in it is no call.
use Rattle.std.proofs.Common.{arith, ◌≡◌, ◌≢◌, ◌⊎◌, ℕ, ◌+◌, ◌-◌, ◌<◌, ◌==◌, Bool, true, false, not, Option, Some, None, List, [], ◌∷◌, ◌++◌, length, refl, sym, ap, ◌∙◌, subst, inl, inr, append-nil}
use Rattle.std.proofs.lemmas.Bool.Decides.{nat_tests}
use Rattle.std.proofs.lemmas.List.{append_assoc, length-append}
use Rattle.wt_tree.specs.declared.kind.Kind.{Kind}
use Rattle.wt_tree.specs.declared.kind.Kind.TheVariants as kind
use Rattle.wt_tree.specs.Kinds.{is_leaf}
use Rattle.wt_tree.specs.Source.{flat, flat_of_all}
use Rattle.wt_tree.specs.Tiling.{is_group as is_group_kind}
use Rattle.wt_tree.specs.Tree.{Label, Tree, tree, Trees, none, more, label}
use Rattle.wt_tree.specs.declared.edit_shape.InlineForm.{InlineForm}
use Rattle.wt_tree.specs.declared.edit_shape.InlineForm.TheVariants as inline
use Rattle.wt_tree.specs.declared.edit_shape.Sort.{Sort}
use Rattle.wt_tree.specs.declared.edit_shape.Sort.TheVariants as sort
use Rattle.wt_tree.specs.EditShapes.{edit_shape}
use Rattle.wt_guards.specs.Content.{is_group}
use Rattle.wt_guards.specs.Guards.{is_new_at_start, is_new_last, is_adjacent}
use Rattle.wt_content.specs.Content.{has_break}
use Rattle.wt_original.specs.declared.block.Extent.{Extent}
use Rattle.wt_original.specs.Kept.{Kept, KeptNode, kept_of, kept_nodes, items, visible, found_at, found_from, found_in, began_line, ended_content, url, island, role_by}
use Rattle.wt_original.specs.Numbers.{counts_up}
use Rattle.wt_link_spelling.specs.Spelling.{children_of}
use Rattle.wt_beside_laws.specs.OwnLed.{FoundAt}
use Rattle.wt_beside_laws.specs.OwnSigns.{HasOwnBy, HaveOwn}
use Rattle.wt_beside_laws.specs.StyledBlocks.{thing_of}
use Rattle.wt_beside_laws.proofs.Marks.Ends.{last_of}
use Rattle.wt_beside_laws.proofs.Marks.Within.{began_so}
use Rattle.wt_beside_laws.proofs.OwnSigns.{Every, every_left, every_right, Finds, all_found, own_found, inside_found, held_if}
use Rattle.wt_called_edit_laws.specs.StyledCallEdits.{HasNumberBy, HaveNumbers}
use Rattle.wt_inside_laws.specs.Contents.{Border, element, bold, italic, end, borders_by, borders, onto_first, texts_by, all_texts_before, texts}
use Rattle.wt_inside_laws.specs.RetypedCalls.{OwnTextBy, AreOwnTexts, UncalledBy, HasUncalledChild}
use Rattle.wt_inside_laws.proofs.SlotsFirst.{texts_some, leaf_source, last_unbroken}
use Rattle.wt_inside_laws.proofs.UncalledSlots.{SomeBytes, IsThere, IsParted, IsPartedLast, PageParted, PageSome, onto_none}

-- ---- what a node is to its neighbours

url_ungrouped : (opening text : List ℕ) → is_group (url opening text) ≡ false
url_ungrouped [] text = refl
url_ungrouped (b ∷ opening) text = refl

island_ungrouped : (v : Bool) → is_group (island v) ≡ false
island_ungrouped true = refl
island_ungrouped false = refl

no_group : (v : Bool) → v ≡ false → v ≡ true → ⊥
no_group true e f = cc
no_group false e f = cc

-- a group that didn't begin its line
new_by : (s : Sort) (block : Tree) (e : Extent) (t : Tree) → began_line block e ≡ false → is_group (role_by s block e t) ≡ true
    → is_new_at_start (role_by s block e t) ≡ true
new_by sort.PageLink block e t b g = absurd (cc)
new_by sort.Url block e t b g = absurd (no_group (is_group (role_by sort.Url block e t)) (url_ungrouped (label t).opening _) g)
new_by sort.Switch block e t b g = absurd (cc)
new_by sort.Mark block e t b g = absurd (cc)
new_by sort.Group block e t b g = ap not b
new_by sort.Island block e t b g = absurd (no_group (is_group (role_by sort.Island block e t)) (island_ungrouped _) g)
new_by sort.Other block e t b g = absurd (cc)

-- or didn't end the content
last_by : (s : Sort) (block : Tree) (e : Extent) (t : Tree) → ended_content block e ≡ false → is_group (role_by s block e t) ≡ true
    → is_new_last (role_by s block e t) ≡ true
last_by sort.PageLink block e t b g = absurd (cc)
last_by sort.Url block e t b g = absurd (no_group (is_group (role_by sort.Url block e t)) (url_ungrouped (label t).opening _) g)
last_by sort.Switch block e t b g = absurd (cc)
last_by sort.Mark block e t b g = absurd (cc)
last_by sort.Group block e t b g = ap not b
last_by sort.Island block e t b g = absurd (no_group (is_group (role_by sort.Island block e t)) (island_ungrouped _) g)
last_by sort.Other block e t b g = absurd (cc)

-- a node of another kind is none
abbrev IsNoGroup : Sort → Type 0
IsNoGroup sort.PageLink = Unit {0}
IsNoGroup sort.Url = Unit {0}
IsNoGroup sort.Switch = Unit {0}
IsNoGroup sort.Mark = Unit {0}
IsNoGroup sort.Group = ⊥
IsNoGroup sort.Island = Unit {0}
IsNoGroup sort.Other = Unit {0}

kind_ungrouped : (k : Kind) → is_group_kind k ≡ false → IsNoGroup (edit_shape k).sort
kind_ungrouped kind.Group e = absurd (cc)
kind_ungrouped k e = tt

ungrouped_by : (s : Sort) (block : Tree) (e : Extent) (t : Tree) → IsNoGroup s → is_group (role_by s block e t) ≡ false
ungrouped_by sort.PageLink block e t h = refl
ungrouped_by sort.Url block e t h = url_ungrouped (label t).opening _
ungrouped_by sort.Switch block e t h = refl
ungrouped_by sort.Mark block e t h = refl
ungrouped_by sort.Group block e t h = absurd h
ungrouped_by sort.Island block e t h = island_ungrouped _
ungrouped_by sort.Other block e t h = refl

-- ---- a text parts what is beside it

-- the content begins at this byte of its block, or this node ends there
abbrev IsLeft : Tree → Option Kept → ℕ → Type 0
IsLeft block None base = base ≡ length (label block).opening
IsLeft block (Some j) base = (f : KeptNode) × (j ≡ kept_of block f) × (f.extent.end ≡ base)

some_long : (bs : List ℕ) → SomeBytes bs → 0 < length bs
some_long [] s = absurd s
some_long (b ∷ bs) s = omega arith

parted_here : (block : Tree) (left : Option Kept) (start pre rest : List ℕ) (from : ℕ) (t : Tree) → IsLeft block left (length start)
    → flat block ≡ start ++ (pre ++ rest) → SomeBytes pre → has_break pre ≡ false → IsParted left (kept_of block (found_at (length start + length pre) from t))
parted_here block left start [] rest from t l is s u = absurd s
parted_here block None start (b ∷ bs) rest from t l is s u = λ g.
    let pre : List ℕ = b ∷ bs in
    let x : Extent = (found_at (length start + length pre) from t).extent in
    let long = length-append start pre in
    let all : flat block ≡ (start ++ pre) ++ rest = is ∙ sym (append_assoc start pre rest) in
    let place : x.start ≡ length (start ++ pre) = sym long in
    new_by (edit_shape (label t).kind).sort block x t
    (began_so block false (start ++ pre) rest x all (omega (arith, long, l), last_of false start pre (omega arith) (last_unbroken b bs u)) place) g
parted_here block (Some j) start (b ∷ bs) rest from t l is s u =
    let f : KeptNode = l.0 in
    let k : Kept = kept_of block (found_at (length start + length (b ∷ bs)) from t) in
    let ends : f.extent.end ≡ length start = l.2 in
    let some : 0 < length (b ∷ bs) = omega arith in
    let apart : ((length start + length (b ∷ bs)) == f.extent.end) ≡ false = grind (arith, nat_tests, ends, some) in
    ap (λ (i : Kept). is_adjacent (thing_of i) (thing_of k)) l.1 ∙ apart

last_here : (block : Tree) (left : Option Kept) (start pre : List ℕ) → IsLeft block left (length start)
    → flat block ≡ start ++ (pre ++ (label block).closing) → SomeBytes pre → IsPartedLast left
last_here block None start pre l is s = tt
last_here block (Some j) start pre l is s =
    let f : KeptNode = l.0 in
    let ends : f.extent.end ≡ length start = l.2 in
    let some = some_long pre s in
    let all = ap length is in
    let first = length-append start (pre ++ (label block).closing) in
    let last = length-append pre (label block).closing in
    let within : (f.extent.end == length (flat block) - length (label block).closing) ≡ false = grind (arith, nat_tests, ends, some, all, first, last) in
    subst (λ (i : Kept). is_group i.role ≡ true → is_new_last i.role ≡ true) (sym l.1)
    (λ g. last_by (edit_shape (label f.node).kind).sort block f.extent f.node within g)

-- ---- the children

abbrev FoundBy : InlineForm → Tree → ℕ → Tree → Type 0
FoundBy inline.Nothing block at t = Unit {0}
FoundBy inline.Characters block at t = Unit {0}
FoundBy inline.Bold block at t = Unit {0}
FoundBy inline.Italic block at t = Unit {0}
FoundBy inline.Shown block at t = FoundAt block at t
FoundBy inline.PageLink block at t = FoundAt block at t
FoundBy inline.ExternalLink block at t = FoundAt block at t
FoundBy inline.Tag block at t = FoundAt block at t
FoundBy inline.Break block at t = FoundAt block at t
FoundBy inline.AsItStood block at t = FoundAt block at t

-- each node is found by its number, at its place
abbrev pub AreFoundAt : Tree → ℕ → Trees → Type 0
AreFoundAt block at none = Unit {0}
AreFoundAt block at (more (tree l ts) us) =
    FoundBy (edit_shape l.kind).inline block at (tree l ts) × AreFoundAt block (at + length (flat (tree l ts))) us

onto_twice : (x y : List ℕ) (os : List (List ℕ)) → onto_first x (onto_first y os) ≡ onto_first (x ++ y) os
onto_twice x y [] = refl
onto_twice x y (n ∷ ns) = ap (λ (m : List ℕ). m ∷ ns) (sym (append_assoc x y n))

-- a node, with what comes after it
node_parted : (block : Tree) (left : Option Kept) (start pre rest : List ℕ) (l : Label) (ts : Trees) (bs : List Border) (os : List (List ℕ))
    → IsLeft block left (length start) → flat block ≡ start ++ (pre ++ rest) → FoundAt block (length start + length pre) (tree l ts)
    → ((from : ℕ) → PageParted (kept_nodes block) (Some (kept_of block (found_at (length start + length pre) from (tree l ts)))) bs os)
    → PageParted (kept_nodes block) left (element l.id ∷ bs) ((pre ++ []) ∷ os)
node_parted block left start pre rest l ts bs os il is f g =
    let ks : List Kept = kept_nodes block in
    let j : Kept = kept_of block (found_at (length start + length pre) f.0 (tree l ts)) in
    subst (λ (o : Option Kept). IsThere o (λ k. (SomeBytes (pre ++ []) → has_break (pre ++ []) ≡ false → IsParted left k) × PageParted ks (Some k) bs os)) (sym f.1) (
      (λ s u.
          parted_here block left start pre rest f.0 (tree l ts) il is (subst SomeBytes (append-nil pre) s)
          (subst (λ (cs : List ℕ). has_break cs ≡ false) (append-nil pre) u)),
      g f.0,
    )

child_parted : (f : InlineForm) (block : Tree) (left : Option Kept) (start pre rest : List ℕ) (l : Label) (ts us : Trees) → IsLeft block left (length start)
    → flat block ≡ start ++ (pre ++ rest) → OwnTextBy f l ts → FoundBy f block (length start + length pre) (tree l ts)
    → ((flat (tree l ts) ≡ l.shown) → PageParted (kept_nodes block) left (borders us) (onto_first (pre ++ l.shown) (texts us)))
    → ((from : ℕ) → PageParted (kept_nodes block) (Some (kept_of block (found_at (length start + length pre) from (tree l ts)))) (borders us) (texts us))
    → PageParted (kept_nodes block) left (borders_by f l.id (borders ts) ++ borders us)
    (onto_first pre (texts_by f l.shown (λ os. all_texts_before ts os) (texts us)))
child_parted inline.Nothing block left start pre rest l ts us il is own f g h = absurd own
child_parted inline.Characters block left start pre rest l ts us il is own f g h =
    subst (PageParted (kept_nodes block) left (borders us)) (sym (onto_twice pre l.shown (texts us))) (g own.0)
child_parted inline.Bold block left start pre rest l ts us il is own f g h = tt
child_parted inline.Italic block left start pre rest l ts us il is own f g h = tt
child_parted inline.Shown block left start pre rest l ts us il is own f g h = node_parted block left start pre rest l ts (borders us) (texts us) il is f h
child_parted inline.PageLink block left start pre rest l ts us il is own f g h = node_parted block left start pre rest l ts (borders us) (texts us) il is f h
child_parted inline.ExternalLink block left start pre rest l ts us il is own f g h = node_parted block left start pre rest l ts (borders us) (texts us) il is f h
child_parted inline.Tag block left start pre rest l ts us il is own f g h = node_parted block left start pre rest l ts (borders us) (texts us) il is f h
child_parted inline.Break block left start pre rest l ts us il is own f g h = node_parted block left start pre rest l ts (borders us) (texts us) il is f h
child_parted inline.AsItStood block left start pre rest l ts us il is own f g h = node_parted block left start pre rest l ts (borders us) (texts us) il is f h

-- the same bytes, cut one text or node later
text_later : (start pre own held rest : List ℕ) → start ++ (pre ++ ((own ++ held) ++ rest)) ≡ start ++ ((pre ++ own) ++ (held ++ rest))
text_later start pre own held rest =
    ap (λ (cs : List ℕ). start ++ cs) (ap (λ (cs : List ℕ). pre ++ cs) (append_assoc own held rest) ∙ sym (append_assoc pre own (held ++ rest)))

node_later : (start pre own held rest : List ℕ) → start ++ (pre ++ ((own ++ held) ++ rest)) ≡ (start ++ (pre ++ own)) ++ ([] ++ (held ++ rest))
node_later start pre own held rest = text_later start pre own held rest ∙ sym (append_assoc start (pre ++ own) (held ++ rest))

children_parted : (us : Trees) (block : Tree) (left : Option Kept) (start pre : List ℕ) → IsLeft block left (length start)
    → flat block ≡ start ++ (pre ++ (flat_of_all us ++ (label block).closing)) → AreOwnTexts us → AreFoundAt block (length start + length pre) us
    → PageParted (kept_nodes block) left (borders us) (onto_first pre (texts us))
children_parted none block left start pre il is own f = λ s. last_here block left start pre il is (subst SomeBytes (append-nil pre) s)
children_parted (more (tree l ts) us) block left start pre il is own f =
    let bytes : List ℕ = flat (tree l ts) in
    let closing : List ℕ = (label block).closing in
    let both = length-append pre bytes in
    let past = length-append start (pre ++ bytes) in
    child_parted (edit_shape l.kind).inline block left start pre ((bytes ++ flat_of_all us) ++ closing) l ts us il is own.0 f.0
    (λ same.
    let wide = length-append pre l.shown in
    let as_long = ap length same in
    children_parted us block left start (pre ++ l.shown) il
    (is ∙ text_later start pre bytes (flat_of_all us) closing ∙ ap (λ (cs : List ℕ). start ++ ((pre ++ cs) ++ (flat_of_all us ++ closing))) same) own.1
    (subst (λ (i : ℕ). AreFoundAt block i us) (omega (arith, wide, as_long)) f.1))
    (λ from.
    let at : ℕ = length start + length pre in
    let j : KeptNode = found_at at from (tree l ts) in
    let ends : at + length bytes ≡ length (start ++ (pre ++ bytes)) = omega (arith, both, past) in
    subst (PageParted (kept_nodes block) (Some (kept_of block j)) (borders us)) (onto_none (texts us) (λ z. texts_some us z))
    (children_parted us block (Some (kept_of block j)) (start ++ (pre ++ bytes)) [] (j, refl, ends)
    (is ∙ node_later start pre bytes (flat_of_all us) closing) own.1
    (subst (λ (i : ℕ). AreFoundAt block i us) (omega (arith, ends)) f.1)))

-- ---- something is no call

text_there : (ks : List Kept) (bs : List Border) (x : List ℕ) (os : List (List ℕ)) → (os ≡ [] → ⊥) → 0 < length x → PageSome ks bs (onto_first x os)
text_there ks bs x [] some h = absurd (some refl)
text_there ks bs [] (n ∷ ns) some h = absurd (omega (arith, h))
text_there ks [] (b ∷ x) (n ∷ ns) some h = tt
text_there ks (element i ∷ bs) (b ∷ x) (n ∷ ns) some h = inl tt
text_there ks (bold i ∷ bs) (b ∷ x) (n ∷ ns) some h = tt
text_there ks (italic i ∷ bs) (b ∷ x) (n ∷ ns) some h = tt
text_there ks (end ∷ bs) (b ∷ x) (n ∷ ns) some h = tt

node_there : (block : Tree) (at : ℕ) (l : Label) (ts : Trees) (bs : List Border) (os : List (List ℕ)) (S : Type 0) → FoundAt block at (tree l ts)
    → (is_group_kind l.kind ≡ false) ⊎ S → (S → PageSome (kept_nodes block) bs os) → PageSome (kept_nodes block) (element l.id ∷ bs) ([] ∷ os)
node_there block at l ts bs os S f (inl e) g =
    let x : Extent = (found_at at f.0 (tree l ts)).extent in
    inr (inl (subst (λ (o : Option Kept). IsThere o (λ k. is_group k.role ≡ false)) (sym f.1)
    (ungrouped_by (edit_shape l.kind).sort block x (tree l ts) (kind_ungrouped l.kind e))))
node_there block at l ts bs os S f (inr h) g = inr (inr (g h))

child_there : (f : InlineForm) (block : Tree) (at : ℕ) (l : Label) (ts us : Trees) (S : Type 0) → OwnTextBy f l ts → FoundBy f block at (tree l ts)
    → UncalledBy f l ⊎ S → (S → PageSome (kept_nodes block) (borders us) (texts us))
    → PageSome (kept_nodes block) (borders_by f l.id (borders ts) ++ borders us) (texts_by f l.shown (λ os. all_texts_before ts os) (texts us))
child_there inline.Nothing block at l ts us S own f u g = absurd own
child_there inline.Characters block at l ts us S own f u g =
    text_there (kept_nodes block) (borders us) l.shown (texts us) (λ z. texts_some us z) own.1
child_there inline.Bold block at l ts us S own f u g = tt
child_there inline.Italic block at l ts us S own f u g = tt
child_there inline.Shown block at l ts us S own f u g = node_there block at l ts (borders us) (texts us) S f u g
child_there inline.PageLink block at l ts us S own f u g = node_there block at l ts (borders us) (texts us) S f u g
child_there inline.ExternalLink block at l ts us S own f u g = node_there block at l ts (borders us) (texts us) S f u g
child_there inline.Tag block at l ts us S own f u g = node_there block at l ts (borders us) (texts us) S f u g
child_there inline.Break block at l ts us S own f u g = node_there block at l ts (borders us) (texts us) S f u g
child_there inline.AsItStood block at l ts us S own f u g = node_there block at l ts (borders us) (texts us) S f u g

pub children_there : (us : Trees) (block : Tree) (at : ℕ) → AreOwnTexts us → AreFoundAt block at us → HasUncalledChild us
    → PageSome (kept_nodes block) (borders us) (texts us)
children_there none block at own f h = absurd h
children_there (more (tree l ts) us) block at own f h =
    child_there (edit_shape l.kind).inline block at l ts us (HasUncalledChild us) own.0 f.0 h
    (λ z. children_there us block (at + length (flat (tree l ts))) own.1 f.1 z)

-- ---- its nodes are found

-- a node has a number
abbrev pub NumberBy : InlineForm → Label → Type 0
NumberBy inline.Nothing l = Unit {0}
NumberBy inline.Characters l = Unit {0}
NumberBy inline.Bold l = Unit {0}
NumberBy inline.Italic l = Unit {0}
NumberBy inline.Shown l = l.id ≢ 0
NumberBy inline.PageLink l = l.id ≢ 0
NumberBy inline.ExternalLink l = l.id ≢ 0
NumberBy inline.Tag l = l.id ≢ 0
NumberBy inline.Break l = l.id ≢ 0
NumberBy inline.AsItStood l = l.id ≢ 0

abbrev pub AreNumbered : Trees → Type 0
AreNumbered none = Unit {0}
AreNumbered (more (tree l ts) us) = NumberBy (edit_shape l.kind).inline l × AreNumbered us

own_number : (f : InlineForm) (l : Label) → HasOwnBy f l → NumberBy f l
own_number inline.Nothing l h = tt
own_number inline.Characters l h = tt
own_number inline.Bold l h = absurd h
own_number inline.Italic l h = absurd h
own_number inline.Shown l h = h
own_number inline.PageLink l h = h
own_number inline.ExternalLink l h = h
own_number inline.Tag l h = h
own_number inline.Break l h = h
own_number inline.AsItStood l h = h

pub own_numbered : (us : Trees) → HaveOwn us → AreNumbered us
own_numbered none h = tt
own_numbered (more (tree l ts) us) h = (own_number (edit_shape l.kind).inline l h.0, own_numbered us h.1)

styled_number : (f : InlineForm) (l : Label) (I : Type 0) → HasNumberBy f l I → NumberBy f l
styled_number inline.Nothing l I h = tt
styled_number inline.Characters l I h = tt
styled_number inline.Bold l I h = tt
styled_number inline.Italic l I h = tt
styled_number inline.Shown l I h = h
styled_number inline.PageLink l I h = h
styled_number inline.ExternalLink l I h = h
styled_number inline.Tag l I h = h
styled_number inline.Break l I h = h
styled_number inline.AsItStood l I h = h

pub styled_numbered : (us : Trees) → HaveNumbers us → AreNumbered us
styled_numbered none h = tt
styled_numbered (more (tree l ts) us) h = (styled_number (edit_shape l.kind).inline l (HaveNumbers ts) h.0, styled_numbered us h.1)

child_found : (f : InlineForm) (block : Tree) (at from : ℕ) (l : Label) (ts : Trees) → NumberBy f l → Every (Finds block) (found_from at from (tree l ts))
    → FoundBy f block at (tree l ts)
child_found inline.Nothing block at from l ts n e = tt
child_found inline.Characters block at from l ts n e = tt
child_found inline.Bold block at from l ts n e = tt
child_found inline.Italic block at from l ts n e = tt
child_found inline.Shown block at from l ts n e = (from, own_found (Finds block) at from l ts n e)
child_found inline.PageLink block at from l ts n e = (from, own_found (Finds block) at from l ts n e)
child_found inline.ExternalLink block at from l ts n e = (from, own_found (Finds block) at from l ts n e)
child_found inline.Tag block at from l ts n e = (from, own_found (Finds block) at from l ts n e)
child_found inline.Break block at from l ts n e = (from, own_found (Finds block) at from l ts n e)
child_found inline.AsItStood block at from l ts n e = (from, own_found (Finds block) at from l ts n e)

children_found : (us : Trees) (block : Tree) (at from : ℕ) → AreNumbered us → Every (Finds block) (found_in at from us) → AreFoundAt block at us
children_found none block at from n e = tt
children_found (more (tree l ts) us) block at from n e = (
  child_found (edit_shape l.kind).inline block at from l ts n.0 (every_left (Finds block) (found_from at from (tree l ts)) _ e),
  children_found us block (at + length (flat (tree l ts))) (from + length (visible (items (tree l ts)))) n.1
      (every_right (Finds block) (found_from at from (tree l ts)) _ e),
)

pub block_found : (block : Tree) (n : ℕ) → 0 < n → counts_up n (kept_nodes block) ≡ true → is_leaf (label block).kind ≡ false → AreNumbered (children_of block)
    → AreFoundAt block (length (label block).opening) (children_of block)
block_found (tree l ts) n some counts leaf own =
    let all : AreFoundAt (tree l ts) (0 + length l.opening) ts =
    children_found ts (tree l ts) (0 + length l.opening) (0 + length l.opening) own
    (inside_found (Finds (tree l ts)) 0 0 l ts (held_if l.kind leaf) (all_found (tree l ts) n some counts)) in
    subst (λ (i : ℕ). AreFoundAt (tree l ts) i ts) (omega arith) all

-- ---- a whole block

pub block_parted : (block : Tree) → is_leaf (label block).kind ≡ false → AreOwnTexts (children_of block)
    → AreFoundAt block (length (label block).opening) (children_of block) → PageParted (kept_nodes block) None (borders (children_of block)) (texts (children_of block))
block_parted (tree l ts) leaf own f =
    subst (PageParted (kept_nodes (tree l ts)) None (borders ts)) (onto_none (texts ts) (λ z. texts_some ts z))
    (children_parted ts (tree l ts) None l.opening [] refl (leaf_source l ts leaf) own (subst (λ (i : ℕ). AreFoundAt (tree l ts) i ts) (omega arith) f))
