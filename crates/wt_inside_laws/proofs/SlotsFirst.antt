-- Marks at the start of a content: one that comes to be first in a paragraph, since the text before it was deleted, didn't begin its line in the page; and
-- in a heading no line of comments comes to be first.
use Rattle.std.proofs.Common.{arith, ◌≡◌, ◌⊎◌, ℕ, ◌+◌, ◌<◌, ◌==◌, Bool, true, false, not, Option, Some, None, List, [], ◌∷◌, ◌++◌, length, refl, sym, ap, ap₂, ◌∙◌, subst, inl, inr, append-nil}
use Rattle.std.specs.Prelude.{◌&&◌, zip, if◌then◌else◌}
use Rattle.std.specs.List.{AllByRecursion}
use Rattle.std.specs.Str.{chars, IsUtf8}
use Rattle.std.proofs.Math.Utf8.{encodes}
use Rattle.std.proofs.lemmas.List.{append_assoc, length-append}
use Rattle.std.proofs.lemmas.Str.{encodes-chars}
use Rattle.wt_tree.specs.Kinds.{is_leaf}
use Rattle.wt_tree.specs.Source.{flat, flat_of_all}
use Rattle.wt_tree.specs.Tree.{Label, Tree, tree, Trees, none, more, label}
use Rattle.wt_tree.specs.declared.edit_shape.InlineForm.{InlineForm}
use Rattle.wt_tree.specs.declared.edit_shape.InlineForm.TheVariants as inline
use Rattle.wt_tree.specs.declared.edit_shape.Place.{Place}
use Rattle.wt_tree.specs.declared.edit_shape.Place.TheVariants as place
use Rattle.wt_tree.specs.declared.edit_shape.Sort.{Sort}
use Rattle.wt_tree.specs.declared.edit_shape.Sort.TheVariants as sort
use Rattle.wt_tree.specs.EditShapes.{edit_shape}
use Rattle.wt_guards.specs.declared.role.Role.{Role}
use Rattle.wt_guards.specs.declared.role.Role.TheVariants.{Link, External, Bare, Switch, Toggle, Mark, Group, Function, Node}
use Rattle.wt_guards.specs.Content.{ends_line}
use Rattle.wt_guards.specs.Guards.{is_mark, is_new_at_start}
use Rattle.wt_content.specs.Content.{has_break}
use Rattle.wt_original.specs.declared.block.Extent.{Extent}
use Rattle.wt_original.specs.Kept.{Kept, kept_nodes, kept_with, found_at, began_line, url, island, role_by, role_of}
use Rattle.wt_original.specs.Page.{Page}
use Rattle.wt_link_spelling.specs.Spelling.{children_of}
use Rattle.wt_beside_laws.specs.Led.{MayBegin, BeginsUnled}
use Rattle.wt_beside_laws.specs.SentStyled.{text_then, found_then, sent_by, sent_content}
use Rattle.wt_beside_laws.specs.Styled.{StyledContent, signs_in}
use Rattle.wt_beside_laws.proofs.Marks.Ends.{LastIs, last_of, ends_so}
use Rattle.wt_beside_laws.proofs.Marks.Within.{began_so}
use Rattle.wt_beside_laws.specs.OwnLed.{settled, is_mark_node, begin_marked, FoundAt, LedBy, AreOwnLed}
use Rattle.wt_beside_laws.proofs.Styled.OwnFirst.{role_mark}
use Rattle.wt_beside_laws.proofs.Styled.SentFaults.{or_both}
use Rattle.wt_inside_laws.specs.Contents.{Border, element, bold, italic, end, borders_by, borders, onto_first, texts_by, all_texts_before, texts, Slot, slots_from}
use Rattle.wt_inside_laws.specs.RetypedPieces.{Utf8By, AreUtf8}
use Rattle.wt_inside_laws.specs.TextEdits.{is_line_mark, ends_in_break, breaks_of, IsRetypedText}
use Rattle.wt_inside_laws.proofs.Breaks.{count_unbroken}
use Rattle.wt_inside_laws.proofs.SlotsLed.{LedAt, TextsLed, settled_ends}

-- ---- in the page

-- it is known, and began its line
abbrev pub began_of : Role → Bool
began_of Link = false
began_of External = false
began_of (Bare ends) = false
began_of Switch = false
began_of Toggle = false
began_of (Mark ends began) = began
began_of (Group g) = false
began_of Function = false
began_of Node = false

abbrev IsKnown : Option Kept → (Role → Type 0) → Type 0
IsKnown None P = ⊥
IsKnown (Some k) P = P k.role

-- of a node with these characters before it: with none it is no mark; and where no line break is in them, it didn't begin its line
abbrev IsFirstOf : List ℕ → Role → Type 0
IsFirstOf [] r = is_mark r ≡ false
IsFirstOf (b ∷ bs) r = has_break (b ∷ bs) ≡ false → began_of r ≡ false

-- the first node, unless a style is before it
abbrev pub OwnFirst : List Kept → List ℕ → List Border → List (List ℕ) → Type 0
OwnFirst ks pre bs [] = Unit {0}
OwnFirst ks pre [] (n ∷ ns) = Unit {0}
OwnFirst ks pre (element i ∷ bs) (n ∷ ns) = IsKnown (kept_with i ks) (IsFirstOf (pre ++ n))
OwnFirst ks pre (bold i ∷ bs) (n ∷ ns) = Unit {0}
OwnFirst ks pre (italic i ∷ bs) (n ∷ ns) = Unit {0}
OwnFirst ks pre (end ∷ bs) (n ∷ ns) = Unit {0}

own_first : (ks : List Kept) (pre x : List ℕ) (bs : List Border) (os : List (List ℕ)) → (os ≡ [] → ⊥) → OwnFirst ks (pre ++ x) bs os → OwnFirst ks pre bs (onto_first x os)
own_first ks pre x bs [] s h = absurd (s refl)
own_first ks pre x [] (n ∷ ns) s h = tt
own_first ks pre x (element i ∷ bs) (n ∷ ns) s h =
    subst (λ (cs : List ℕ). IsKnown (kept_with i ks) (IsFirstOf cs)) (append_assoc pre x n) h
own_first ks pre x (bold i ∷ bs) (n ∷ ns) s h = tt
own_first ks pre x (italic i ∷ bs) (n ∷ ns) s h = tt
own_first ks pre x (end ∷ bs) (n ∷ ns) s h = tt

-- the last of some bytes without a line break is none
pub last_unbroken : (b : ℕ) (bs : List ℕ) → has_break (b ∷ bs) ≡ false → LastIs false (b ∷ bs)
last_unbroken b [] h = (or_both (b == 10) false h).0
last_unbroken b (c ∷ bs) h = last_unbroken c bs (or_both (b == 10) (has_break (c ∷ bs)) h).1

url_unbegun : (opening text : List ℕ) → began_of (url opening text) ≡ false
url_unbegun [] text = refl
url_unbegun (b ∷ opening) text = refl

island_unbegun : (v : Bool) → began_of (island v) ≡ false
island_unbegun true = refl
island_unbegun false = refl

unbegun_by : (s : Sort) (block : Tree) (e : Extent) (t : Tree) → began_line block e ≡ false → began_of (role_by s block e t) ≡ false
unbegun_by sort.PageLink block e t h = refl
unbegun_by sort.Url block e t h = url_unbegun (label t).opening _
unbegun_by sort.Switch block e t h = refl
unbegun_by sort.Mark block e t h = h
unbegun_by sort.Group block e t h = refl
unbegun_by sort.Island block e t h = island_unbegun _
unbegun_by sort.Other block e t h = refl

first_by : (pre : List ℕ) (block : Tree) (from : ℕ) (t : Tree) (rest : List ℕ) → flat block ≡ (label block).opening ++ (pre ++ rest)
    → (pre ≡ [] → is_mark_node t ≡ false)
    → IsFirstOf (pre ++ []) (role_of block (found_at (length (label block).opening + length pre) from t).extent t)
first_by [] block from t rest is h = role_mark block _ t ∙ h refl
first_by (b ∷ bs) block from t rest is h = λ e.
    let pre : List ℕ = b ∷ bs in
    let o : List ℕ = (label block).opening in
    let x : Extent = (found_at (length o + length pre) from t).extent in
    let unbroken : has_break pre ≡ false = ap has_break (sym (append-nil pre)) ∙ e in
    let long = length-append o pre in
    let all : flat block ≡ (o ++ pre) ++ rest = is ∙ sym (append_assoc o pre rest) in
    let place : x.start ≡ length (o ++ pre) = sym long in
    unbegun_by (edit_shape (label t).kind).sort block x t
    (began_so block false (o ++ pre) rest x all (omega (arith, long), last_of false o pre (omega arith) (last_unbroken b bs unbroken)) place)

found_first : (block : Tree) (at : ℕ) (pre : List ℕ) (l : Label) (ts : Trees) (rest : List ℕ) → at ≡ length (label block).opening + length pre
    → flat block ≡ (label block).opening ++ (pre ++ rest) → (pre ≡ [] → is_mark_node (tree l ts) ≡ false) → FoundAt block at (tree l ts)
    → IsKnown (kept_with l.id (kept_nodes block)) (IsFirstOf (pre ++ []))
found_first block at pre l ts rest e is h f =
    subst (λ (o : Option Kept). IsKnown o (IsFirstOf (pre ++ []))) (sym f.1)
    (subst (λ (i : ℕ). IsFirstOf (pre ++ []) (role_of block (found_at i f.0 (tree l ts)).extent (tree l ts))) (sym e) (first_by pre block f.0 (tree l ts) rest is h))

none_empty : (pre x : List ℕ) → pre ++ x ≡ [] → pre ≡ []
none_empty [] x e = refl
none_empty (b ∷ bs) x e = absurd (let no = ap length e in omega (arith, no))

some_text : (x : List ℕ) (os : List (List ℕ)) → onto_first x os ≡ [] → ⊥
some_text x [] e = let no = ap length e in omega (arith, no)
some_text x (n ∷ ns) e = let no = ap length e in omega (arith, no)

cons_some : (n : List ℕ) (ns : List (List ℕ)) → n ∷ ns ≡ [] → ⊥
cons_some n ns e = let no = ap length e in omega (arith, no)

texts_some_by : (f : InlineForm) (x : List ℕ) (before : List (List ℕ) → List (List ℕ)) (os : List (List ℕ)) → (os ≡ [] → ⊥) → texts_by f x before os ≡ [] → ⊥
texts_some_by inline.Nothing x before os s e = s e
texts_some_by inline.Characters x before os s e = some_text x os e
texts_some_by inline.Bold x before os s e = cons_some [] (before ([] ∷ os)) e
texts_some_by inline.Italic x before os s e = cons_some [] (before ([] ∷ os)) e
texts_some_by inline.Shown x before os s e = cons_some [] os e
texts_some_by inline.PageLink x before os s e = cons_some [] os e
texts_some_by inline.ExternalLink x before os s e = cons_some [] os e
texts_some_by inline.Tag x before os s e = cons_some [] os e
texts_some_by inline.Break x before os s e = cons_some [] os e
texts_some_by inline.AsItStood x before os s e = cons_some [] os e

pub texts_some : (ts : Trees) → texts ts ≡ [] → ⊥
texts_some none e = cons_some [] [] e
texts_some (more (tree l ts) us) e = texts_some_by (edit_shape l.kind).inline l.shown (λ os. all_texts_before ts os) (texts us) (λ z. texts_some us z) e

first_node : (f : InlineForm) (block : Tree) (at : ℕ) (s : Bool) (l : Label) (ts us : Trees) (rest : Bool → Type 0) (pre more_bytes : List ℕ)
    → at ≡ length (label block).opening + length pre → flat block ≡ (label block).opening ++ (pre ++ (flat (tree l ts) ++ more_bytes))
    → (pre ≡ [] → is_mark_node (tree l ts) ≡ false) → LedBy f block at s l ts rest
    → ((v : Bool) → flat (tree l ts) ≡ l.shown → 0 < length l.shown → rest v → OwnFirst (kept_nodes block) (pre ++ l.shown) (borders us) (texts us))
    → OwnFirst (kept_nodes block) pre (borders_by f l.id (borders ts) ++ borders us) (texts_by f l.shown (λ os. all_texts_before ts os) (texts us))
first_node inline.Nothing block at s l ts us rest pre bs e is h k g = absurd k
first_node inline.Characters block at s l ts us rest pre bs e is h k g =
    own_first (kept_nodes block) pre l.shown (borders us) (texts us) (λ z. texts_some us z) (g (settled l.shown s) k.0 k.1 k.2)
first_node inline.Bold block at s l ts us rest pre bs e is h k g = tt
first_node inline.Italic block at s l ts us rest pre bs e is h k g = tt
first_node inline.Shown block at s l ts us rest pre bs e is h k g = found_first block at pre l ts (flat (tree l ts) ++ bs) e is h k.0
first_node inline.PageLink block at s l ts us rest pre bs e is h k g = found_first block at pre l ts (flat (tree l ts) ++ bs) e is h k.0
first_node inline.ExternalLink block at s l ts us rest pre bs e is h k g = found_first block at pre l ts (flat (tree l ts) ++ bs) e is h k.0
first_node inline.Tag block at s l ts us rest pre bs e is h k g = found_first block at pre l ts (flat (tree l ts) ++ bs) e is h k.0
first_node inline.Break block at s l ts us rest pre bs e is h k g = found_first block at pre l ts (flat (tree l ts) ++ bs) e is h k.0
first_node inline.AsItStood block at s l ts us rest pre bs e is h k g = found_first block at pre l ts (flat (tree l ts) ++ bs) e is h k.0

nodes_first : (ts : Trees) (block : Tree) (at : ℕ) (s : Bool) (pre rest : List ℕ) → at ≡ length (label block).opening + length pre
    → flat block ≡ (label block).opening ++ (pre ++ (flat_of_all ts ++ rest)) → (pre ≡ [] → begin_marked ts ≡ false) → AreOwnLed block at s ts
    → OwnFirst (kept_nodes block) pre (borders ts) (texts ts)
nodes_first none block at s pre rest e is h k = tt
nodes_first (more (tree l ts) us) block at s pre rest e is h k =
    let own : List ℕ = flat (tree l ts) in
    let bytes : List ℕ = flat_of_all us ++ rest in
    let here : flat block ≡ (label block).opening ++ (pre ++ (own ++ bytes)) =
    is ∙ ap (λ (cs : List ℕ). (label block).opening ++ (pre ++ cs)) (append_assoc own (flat_of_all us) rest) in
    first_node (edit_shape l.kind).inline block at s l ts us (λ v. AreOwnLed block (at + length own) v us) pre bytes e here h k
    (λ v same some q.
    let long = length-append pre l.shown in
    let wide = ap length same in
    let there : flat block ≡ (label block).opening ++ ((pre ++ l.shown) ++ bytes) =
    here ∙ ap (λ (cs : List ℕ). (label block).opening ++ (pre ++ (cs ++ bytes))) same
    ∙ ap (λ (cs : List ℕ). (label block).opening ++ cs) (sym (append_assoc pre l.shown bytes)) in
    nodes_first us block (at + length own) v (pre ++ l.shown) rest (omega (arith, e, long, wide)) there
    (λ z. absurd (let no = ap length z in omega (arith, no, long, some))) q)

pub leaf_source : (l : Label) (ts : Trees) → is_leaf l.kind ≡ false → flat (tree l ts) ≡ l.opening ++ (flat_of_all ts ++ l.closing)
leaf_source l ts e =
    ap (λ (v : Bool). if v then l.own else (l.opening ++ flat_of_all ts ++ l.closing)) e ∙ append_assoc l.opening (flat_of_all ts) l.closing

pub block_first : (block : Tree) (s : Bool) → is_leaf (label block).kind ≡ false → begin_marked (children_of block) ≡ false
    → AreOwnLed block (0 + length (label block).opening) s (children_of block)
    → OwnFirst (kept_nodes block) [] (borders (children_of block)) (texts (children_of block))
block_first (tree l ts) s leaf b led = nodes_first ts (tree l ts) (0 + length l.opening) s [] l.closing (omega arith) (leaf_source l ts leaf) (λ e. b) led

-- ---- in what is sent

-- no node is first but one that may be
abbrev pub NewFirst : Place → List Kept → List Border → List (List ℕ) → Type 0
NewFirst p ks bs [] = Unit {0}
NewFirst p ks [] (n ∷ ns) = Unit {0}
NewFirst p ks (element i ∷ bs) ([] ∷ ns) = IsKnown (kept_with i ks) (MayBegin p)
NewFirst p ks (element i ∷ bs) ((c ∷ cs) ∷ ns) = Unit {0}
NewFirst p ks (bold i ∷ bs) (n ∷ ns) = Unit {0}
NewFirst p ks (italic i ∷ bs) (n ∷ ns) = Unit {0}
NewFirst p ks (end ∷ bs) (n ∷ ns) = Unit {0}

is_new : (r : Role) → ends_line r ≡ false → began_of r ≡ false → is_mark r ≡ true → is_new_at_start r ≡ true
is_new Link e b m = cc
is_new External e b m = cc
is_new (Bare ends) e b m = cc
is_new Switch e b m = cc
is_new Toggle e b m = cc
is_new (Mark ends began) e b m = ap₂ (λ (v w : Bool). not v && not w) e b
is_new (Group g) e b m = cc
is_new Function e b m = cc
is_new Node e b m = cc

no_break_end : (b : ℕ) (bs : List ℕ) → has_break (b ∷ bs) ≡ false → ends_in_break (b ∷ bs) ≡ true → ⊥
no_break_end b bs h e =
    let z = ends_so false (b ∷ bs) (omega arith) (last_unbroken b bs h) in let no = sym z ∙ e in cc

known_new : (o : Option Kept) (n : List ℕ) (s : Bool) → IsKnown o (IsFirstOf n) → (is_line_mark o ≡ true → settled n s ≡ true) → (0 < length n → has_break n ≡ false)
    → IsKnown o (MayBegin place.Paragraph)
known_new None n s h led free = h
known_new (Some k) [] s h led free = λ m. absurd (let no = sym h ∙ m in cc)
known_new (Some k) (b ∷ bs) s h led free =
    let unbroken : has_break (b ∷ bs) ≡ false = free (omega arith) in
    is_new k.role (unended (ends_line k.role) refl) (h unbroken)
  where
    unended : (v : Bool) → ends_line k.role ≡ v → ends_line k.role ≡ false
    unended true e = absurd (no_break_end b bs (free (omega arith)) (settled_ends b bs s (led e)))
    unended false e = e

first_at : (ks : List Kept) (i : ℕ) (n m : List ℕ) (s : Bool) (bs : List Border) (ms : List (List ℕ)) → (breaks_of m ≡ breaks_of n) ⊎ (m ≡ n)
    → IsKnown (kept_with i ks) (IsFirstOf n) → LedAt ks (element i) (settled n s) → NewFirst place.Paragraph ks (element i ∷ bs) (m ∷ ms)
first_at ks i n (c ∷ cs) s bs ms t h led = tt
first_at ks i n [] s bs ms (inl e) h led = known_new (kept_with i ks) n s h led (λ some. count_unbroken n (sym e))
first_at ks i n [] s bs ms (inr e) h led = known_new (kept_with i ks) n s h led (λ some. absurd (let no = ap length e in omega (arith, no, some)))

same_breaks : (ks : List Kept) (s t : Slot) → IsRetypedText ks (s, t) → (breaks_of t.text ≡ breaks_of s.text) ⊎ (t.text ≡ s.text)
same_breaks ks s t (inl e) = inr e
same_breaks ks s t (inr r) = inl r.breaks

pub retyped_first : (ks : List Kept) (bs : List Border) (ns ms : List (List ℕ)) (s : Bool) → length ns ≡ length ms
    → AllByRecursion (IsRetypedText ks) (zip (slots_from None bs ns) (slots_from None bs ms)) → OwnFirst ks [] bs ns → TextsLed ks s bs ns
    → NewFirst place.Paragraph ks bs ms
retyped_first ks bs [] [] s e t h led = tt
retyped_first ks bs [] (m ∷ ms) s e t h led = absurd (omega (arith, e))
retyped_first ks bs (n ∷ ns) [] s e t h led = tt
retyped_first ks [] (n ∷ ns) (m ∷ ms) s e t h led = tt
retyped_first ks (element i ∷ bs) (n ∷ ns) (m ∷ ms) s e t h led =
    first_at ks i n m s bs ms
    (same_breaks ks (record { left = None; text = n; right = Some (element i) }) (record { left = None; text = m; right = Some (element i) }) t.0) h led.0
retyped_first ks (bold i ∷ bs) (n ∷ ns) (m ∷ ms) s e t h led = tt
retyped_first ks (italic i ∷ bs) (n ∷ ns) (m ∷ ms) s e t h led = tt
retyped_first ks (end ∷ bs) (n ∷ ns) (m ∷ ms) s e t h led = tt

-- ---- in a heading

abbrev AnyRole : Role → Type 0
AnyRole r = Unit {0}

-- the page has the first node, unless a style is before it
abbrev pub KnownFirst : List Kept → List Border → Type 0
KnownFirst ks [] = Unit {0}
KnownFirst ks (element i ∷ bs) = IsKnown (kept_with i ks) AnyRole
KnownFirst ks (bold i ∷ bs) = Unit {0}
KnownFirst ks (italic i ∷ bs) = Unit {0}
KnownFirst ks (end ∷ bs) = Unit {0}

known_found : (block : Tree) (at : ℕ) (l : Label) (ts : Trees) → FoundAt block at (tree l ts) → IsKnown (kept_with l.id (kept_nodes block)) AnyRole
known_found block at l ts h = subst (λ (o : Option Kept). IsKnown o AnyRole) (sym h.1) tt

known_node : (f : InlineForm) (block : Tree) (at : ℕ) (s : Bool) (l : Label) (ts us : Trees) (rest : Bool → Type 0) → LedBy f block at s l ts rest
    → ((v : Bool) → rest v → KnownFirst (kept_nodes block) (borders us)) → KnownFirst (kept_nodes block) (borders_by f l.id (borders ts) ++ borders us)
known_node inline.Nothing block at s l ts us rest h g = absurd h
known_node inline.Characters block at s l ts us rest h g = g (settled l.shown s) h.2
known_node inline.Bold block at s l ts us rest h g = tt
known_node inline.Italic block at s l ts us rest h g = tt
known_node inline.Shown block at s l ts us rest h g = known_found block at l ts h.0
known_node inline.PageLink block at s l ts us rest h g = known_found block at l ts h.0
known_node inline.ExternalLink block at s l ts us rest h g = known_found block at l ts h.0
known_node inline.Tag block at s l ts us rest h g = known_found block at l ts h.0
known_node inline.Break block at s l ts us rest h g = known_found block at l ts h.0
known_node inline.AsItStood block at s l ts us rest h g = known_found block at l ts h.0

pub nodes_known : (ts : Trees) (block : Tree) (at : ℕ) (s : Bool) → AreOwnLed block at s ts → KnownFirst (kept_nodes block) (borders ts)
nodes_known none block at s h = tt
nodes_known (more (tree l ts) us) block at s h =
    known_node (edit_shape l.kind).inline block at s l ts us (λ v. AreOwnLed block (at + length (flat (tree l ts))) v us) h
    (λ v q. nodes_known us block (at + length (flat (tree l ts))) v q)

known_unended : (o : Option Kept) → IsKnown o AnyRole → (is_line_mark o ≡ true → false ≡ true) → IsKnown o (MayBegin place.Heading)
known_unended None h f = h
known_unended (Some k) h f = by (ends_line k.role) refl
  where
    by : (v : Bool) → ends_line k.role ≡ v → ends_line k.role ≡ false
    by true e = let no : false ≡ true = f e in cc
    by false e = e

-- where no line begins before the content, no line of comments is first
pub heading_first : (ks : List Kept) (bs : List Border) (ns : List (List ℕ)) → KnownFirst ks bs → TextsLed ks false bs ns → NewFirst place.Heading ks bs ns
heading_first ks bs [] h led = tt
heading_first ks [] (n ∷ ns) h led = tt
heading_first ks (element i ∷ bs) ([] ∷ ns) h led = known_unended (kept_with i ks) h led.0
heading_first ks (element i ∷ bs) ((c ∷ cs) ∷ ns) h led = tt
heading_first ks (bold i ∷ bs) (n ∷ ns) h led = tt
heading_first ks (italic i ∷ bs) (n ∷ ns) h led = tt
heading_first ks (end ∷ bs) (n ∷ ns) h led = tt

-- ---- the first sign

known_first : (p : Place) (o : Option Kept) (t : StyledContent) → IsKnown o (MayBegin p) → BeginsUnled p (signs_in (found_then o t))
known_first p None t h = absurd h
known_first p (Some k) t h = h

letters_first : (p : Place) (cs : List ℕ) (t : StyledContent) → (cs ≡ [] → BeginsUnled p (signs_in t)) → BeginsUnled p (signs_in (text_then cs t))
letters_first p [] t h = h refl
letters_first p (c ∷ cs) t h = tt

without_first : (p : Place) (ks : List Kept) (bs : List Border) (x : List ℕ) (os : List (List ℕ)) → x ≡ [] → NewFirst p ks bs (onto_first x os) → NewFirst p ks bs os
without_first p ks bs x [] e h = tt
without_first p ks bs x (n ∷ ns) e h = subst (λ (cs : List ℕ). NewFirst p ks bs ((cs ++ n) ∷ ns)) e h

no_chars : (text : List ℕ) → IsUtf8 text → chars text ≡ [] → text ≡ []
no_chars text u e = sym (encodes-chars text u) ∙ ap encodes e

-- a style's delimiter may
style_may : (p : Place) → MayBegin p Toggle
style_may place.Paragraph = λ e. absurd (cc)
style_may place.Heading = refl
style_may place.Item = λ e. absurd (cc)
style_may place.Term = λ e. absurd (cc)
style_may place.Cell = λ e. absurd (cc)
style_may place.Header = λ e. absurd (cc)

sign_first : (p : Place) (f : InlineForm) (page : Page) (l : Label) (bs ys : List Border) (before : List (List ℕ) → List (List ℕ)) (after : List (List ℕ))
    (inside t : StyledContent) (U : Type 0) → Utf8By f l U → NewFirst p page.kept (borders_by f l.id bs ++ ys) (texts_by f l.shown before after)
    → (NewFirst p page.kept ys after → BeginsUnled p (signs_in t)) → BeginsUnled p (signs_in (sent_by f (kept_with l.id page.kept) l inside t))
sign_first p inline.Nothing page l bs ys before after inside t U u h k = k h
sign_first p inline.Characters page l bs ys before after inside t U u h k =
    letters_first p (chars l.shown) t (λ e. k (without_first p page.kept ys l.shown after (no_chars l.shown u e) h))
sign_first p inline.Bold page l bs ys before after inside t U u h k = style_may p
sign_first p inline.Italic page l bs ys before after inside t U u h k = style_may p
sign_first p inline.Shown page l bs ys before after inside t U u h k = known_first p (kept_with l.id page.kept) t h
sign_first p inline.PageLink page l bs ys before after inside t U u h k = known_first p (kept_with l.id page.kept) t h
sign_first p inline.ExternalLink page l bs ys before after inside t U u h k = known_first p (kept_with l.id page.kept) t h
sign_first p inline.Tag page l bs ys before after inside t U u h k = known_first p (kept_with l.id page.kept) t h
sign_first p inline.Break page l bs ys before after inside t U u h k = known_first p (kept_with l.id page.kept) t h
sign_first p inline.AsItStood page l bs ys before after inside t U u h k = known_first p (kept_with l.id page.kept) t h

pub sent_first : (p : Place) (us : Trees) (page : Page) → AreUtf8 us → NewFirst p page.kept (borders us) (texts us) → BeginsUnled p (signs_in (sent_content page us))
sent_first p none page u h = tt
sent_first p (more (tree l ts) us) page u h =
    sign_first p (edit_shape l.kind).inline page l (borders ts) (borders us) (λ os. all_texts_before ts os) (texts us) (sent_content page ts) (sent_content page us)
    (AreUtf8 ts) u.0 h (λ q. sent_first p us page u.1 q)
