-- What is gathered of a group's nodes, one node at a time.
use Rattle.std.proofs.Common.{◌≡◌, ℕ, ◌+◌, ◌<◌, Bool, List, [], ◌∷◌, ◌++◌, length, map, take, get_or, refl, sym, ap, ◌∙◌, append_assoc, append-nil}
use Rattle.std.proofs.lemmas.List.{take_more, map-append}
use Rattle.wt_tree.specs.declared.kind.Showing.{Showing}
use Rattle.wt_tree.specs.declared.kind.Showing.TheVariants.{Characters, Inside, Nothing, Element}
use Rattle.wt_tree.specs.declared.node.Node.{Node, out-Node}
use Rattle.wt_tree.specs.Kinds.{showing, writing}
use Rattle.wt_tree.specs.declared.row.Writing.{Writing}
use Rattle.wt_tree.specs.declared.row.Writing.TheVariants.{AsText, AsVoid, RoundCharacter, RoundChildren, AsSection, Unwritten}
use Rattle.std.specs.Prelude.{if◌then◌else◌}
use Rattle.wt_tree.specs.Plain.{face, text, element, Plains, ended, along}
use Rattle.wt_tree.specs.Tree.{Label, Tree, tree}
use Rattle.wt_checks.specs.Unmarked.{own_character}
use Rattle.wt_tree.specs.Stream.{StreamToken, byte, bracket, opens, closes, signs_by, signs, signs_of_all}
use Rattle.wt_tree.specs.View.{view, views, label_of}
use Rattle.wt_tree.proofs.Views.{view_out}
use Rattle.wt_checks.specs.Elements.{without_data, read_by, read_before, all_read, signs_in, signs_of}
use Rattle.wt_checks.specs.Tokens.{bare_sign, all_bare_signs, top_signs, all_top_signs, top_open, all_top_open, top_by, open_by, is_text, leaf_signs, element_signs}

pub take_turn : (ns : List Node) (i : ℕ) (n : Node) → i < length ns → n ≡ get_or ns i n → take (i + 1) ns ≡ take i ns ++ n ∷ []
take_turn ns i n lt is = take_more ns i n lt ∙ ap (λ (x : Node). take i ns ++ x ∷ []) (sym is)

pub bare_text : (bs : List ℕ) → all_bare_signs (map byte bs) ≡ map byte bs
bare_text [] = refl
bare_text (b ∷ bs) = ap (λ (ss : List StreamToken). byte b ∷ ss) (bare_text bs)

-- the signs of one node
pub signs_out : (n : Node) → signs (view n) ≡ signs_by (showing (out-Node n).kind) (label_of (out-Node n)) (signs_of_all (views (out-Node n).children))
signs_out n = rw (view_out n)

signs_push : (ns : List Node) (n : Node) → signs_of_all (views (ns ++ n ∷ [])) ≡ signs_of_all (views ns) ++ signs (view n)
signs_push [] n = append-nil (signs (view n))
signs_push (m ∷ ns) n = ap (λ ss. signs (view m) ++ ss) (signs_push ns n) ∙ sym (append_assoc (signs (view m)) (signs_of_all (views ns)) (signs (view n)))

-- one node more
pub inner_turn : (a b c : List StreamToken) (ns : List Node) (i : ℕ) (n : Node) → i < length ns → n ≡ get_or ns i n
    → b ≡ a ++ all_bare_signs (signs_of_all (views (take i ns))) → c ≡ b ++ all_bare_signs (signs (view n))
    → c ≡ a ++ all_bare_signs (signs_of_all (views (take (i + 1) ns)))
inner_turn a b c ns i n lt is h k =
    k ∙ ap (λ ss. ss ++ all_bare_signs (signs (view n))) h ∙ append_assoc a (all_bare_signs (signs_of_all (views (take i ns))))
    (all_bare_signs (signs (view n)))
    ∙ ap (λ ss. a ++ ss) (sym (ap (λ ms. all_bare_signs (signs_of_all (views ms))) (take_turn ns i n lt is)
    ∙ ap all_bare_signs (signs_push (take i ns) n) ∙ map-append bare_sign (signs_of_all (views (take i ns))) (signs (view n))))

pub inner_text : (n : Node) → showing (out-Node n).kind ≡ Characters → all_bare_signs (signs (view n)) ≡ map byte (out-Node n).source.shown
inner_text n e = ap all_bare_signs (signs_out n)
    ∙ ap (λ s. all_bare_signs (signs_by s (label_of (out-Node n)) (signs_of_all (views (out-Node n).children)))) e
    ∙ bare_text (out-Node n).source.shown

pub inner_inside : (n : Node) → showing (out-Node n).kind ≡ Inside → all_bare_signs (signs (view n))
    ≡ all_bare_signs (signs_of_all (views (out-Node n).children))
inner_inside n e = ap all_bare_signs (signs_out n)
    ∙ ap (λ s. all_bare_signs (signs_by s (label_of (out-Node n)) (signs_of_all (views (out-Node n).children)))) e

pub inner_nothing : (n : Node) → showing (out-Node n).kind ≡ Nothing → all_bare_signs (signs (view n)) ≡ []
inner_nothing n e = ap all_bare_signs (signs_out n)
    ∙ ap (λ s. all_bare_signs (signs_by s (label_of (out-Node n)) (signs_of_all (views (out-Node n).children)))) e

pub inner_element : (n : Node) → showing (out-Node n).kind ≡ Element
    → all_bare_signs (signs (view n)) ≡ bracket (opens (without_data (face (label_of (out-Node n)))))
    ∷ (all_bare_signs (signs_of_all (views (out-Node n).children)) ++ (bracket closes ∷ []))
inner_element n e =
    ap all_bare_signs (signs_out n) ∙ ap (λ s. all_bare_signs (signs_by s (label_of (out-Node n)) (signs_of_all (views (out-Node n).children)))) e
    ∙ ap (λ ss. bracket (opens (without_data (face (label_of (out-Node n))))) ∷ ss)
    (map-append bare_sign (signs_of_all (views (out-Node n).children)) (bracket closes ∷ []))

-- at the top
pub top_out : (o : Bool) (n : Node) → top_signs o (view n) ≡ top_by (showing (out-Node n).kind) o (label_of (out-Node n))
    (signs_of_all (views (out-Node n).children)) (all_top_signs o (views (out-Node n).children))
top_out o n = rw (view_out n)

pub open_out : (o : Bool) (n : Node) → top_open o (view n) ≡ open_by (showing (out-Node n).kind) o (label_of (out-Node n))
    (all_top_open o (views (out-Node n).children))
open_out o n = rw (view_out n)

open_push : (o : Bool) (ns : List Node) (n : Node) → all_top_open o (views (ns ++ n ∷ [])) ≡ top_open (all_top_open o (views ns)) (view n)
open_push o [] n = refl
open_push o (m ∷ ns) n = open_push (top_open o (view m)) ns n

top_push : (o : Bool) (ns : List Node) (n : Node) → all_top_signs o (views (ns ++ n ∷ [])) ≡ all_top_signs o (views ns)
    ++ top_signs (all_top_open o (views ns)) (view n)
top_push o [] n = append-nil (top_signs o (view n))
top_push o (m ∷ ns) n =
    ap (λ ss. top_signs o (view m) ++ ss) (top_push (top_open o (view m)) ns n)
    ∙ sym (append_assoc (top_signs o (view m)) (all_top_signs (top_open o (view m)) (views ns))
    (top_signs (all_top_open (top_open o (view m)) (views ns)) (view n)))

pub open_turn : (o w v : Bool) (ns : List Node) (i : ℕ) (n : Node) → i < length ns → n ≡ get_or ns i n
    → w ≡ all_top_open o (views (take i ns)) → v ≡ top_open w (view n) → v ≡ all_top_open o (views (take (i + 1) ns))
open_turn o w v ns i n lt is h k =
    k ∙ ap (λ b. top_open b (view n)) h ∙ sym (open_push o (take i ns) n) ∙ ap (λ ms. all_top_open o (views ms)) (sym (take_turn ns i n lt is))

pub top_turn : (a b c : List StreamToken) (o w : Bool) (ns : List Node) (i : ℕ) (n : Node) → i < length ns → n ≡ get_or ns i n
    → b ≡ a ++ all_top_signs o (views (take i ns)) → w ≡ all_top_open o (views (take i ns)) → c ≡ b ++ top_signs w (view n)
    → c ≡ a ++ all_top_signs o (views (take (i + 1) ns))
top_turn a b c o w ns i n lt is h e k =
    k ∙ ap (λ ss. ss ++ top_signs w (view n)) h ∙ append_assoc a (all_top_signs o (views (take i ns))) (top_signs w (view n))
    ∙ ap (λ v. a ++ (all_top_signs o (views (take i ns)) ++ top_signs v (view n))) e
    ∙ ap (λ ss. a ++ ss) (sym (ap (λ ms. all_top_signs o (views ms)) (take_turn ns i n lt is) ∙ top_push o (take i ns) n))

-- an element is opened, what it holds is added, and it is closed
pub element_turn : (a b c d : List StreamToken) (n : Node) → showing (out-Node n).kind ≡ Element
    → b ≡ a ++ bracket (opens (without_data (face (label_of (out-Node n))))) ∷ []
    → c ≡ b ++ all_bare_signs (signs_of_all (views (out-Node n).children)) → d ≡ c ++ bracket closes ∷ []
    → d ≡ a ++ all_bare_signs (signs (view n))
element_turn a b c d n e f g h =
    let held : List StreamToken = all_bare_signs (signs_of_all (views (out-Node n).children)) in
    let o : List StreamToken = bracket (opens (without_data (face (label_of (out-Node n))))) ∷ [] in
    h ∙ ap (λ ss. ss ++ bracket closes ∷ []) (g ∙ ap (λ ss. ss ++ held) f)
    ∙ ap (λ ss. ss ++ bracket closes ∷ []) (append_assoc a o held) ∙ append_assoc a (o ++ held) (bracket closes ∷ [])
    ∙ ap (λ ss. a ++ ss) (sym (inner_element n e))

-- ---- what was read

node_by : (w : Writing) (s : Showing) (l : Label) (held : Plains)
    → signs_in (read_by w s l held ended) ≡ (if is_text w then leaf_signs s l.shown else
    bracket (opens (face l)) ∷ ((map byte (own_character w l.shown) ++ signs_in held) ++ (bracket closes ∷ [])))
node_by AsText Characters l held = append-nil (map byte l.shown)
node_by AsText Inside l held = refl
node_by AsText Nothing l held = refl
node_by AsText Element l held = refl
node_by AsVoid s l held = append-nil (bracket (opens (face l)) ∷ (signs_in held ++ (bracket closes ∷ [])))
node_by RoundCharacter s l held = append-nil (bracket (opens (face l)) ∷ ((map byte l.shown ++ signs_in held) ++ (bracket closes ∷ [])))
node_by RoundChildren s l held = append-nil (bracket (opens (face l)) ∷ (signs_in held ++ (bracket closes ∷ [])))
node_by (AsSection n) s l held = append-nil (bracket (opens (face l)) ∷ (signs_in held ++ (bracket closes ∷ [])))
node_by Unwritten s l held = append-nil (bracket (opens (face l)) ∷ (signs_in held ++ (bracket closes ∷ [])))

-- one node
pub read_out : (n : Node)
    → signs_in (read_before (view n) ended) ≡ (if is_text (writing (out-Node n).kind) then
    leaf_signs (showing (out-Node n).kind) (out-Node n).source.shown else
    element_signs (label_of (out-Node n)) (signs_in (all_read (views (out-Node n).children))))
read_out n =
    ap (λ (t : Tree). signs_in (read_before t ended)) (view_out n)
    ∙ node_by (writing (out-Node n).kind) (showing (out-Node n).kind) (label_of (out-Node n)) (all_read (views (out-Node n).children))

before_by : (w : Writing) (s : Showing) (l : Label) (held rest : Plains) → signs_in (read_by w s l held rest)
    ≡ signs_in (read_by w s l held ended) ++ signs_in rest
before_by AsText Characters l held rest = ap (λ (ss : List StreamToken). ss ++ signs_in rest) (sym (append-nil (map byte l.shown)))
before_by AsText Inside l held rest = refl
before_by AsText Nothing l held rest = refl
before_by AsText Element l held rest = refl
before_by AsVoid s l held rest = ap (λ (ss : List StreamToken). ss ++ signs_in rest) (sym (append-nil (signs_of (element (face l) held))))
before_by RoundCharacter s l held rest = ap (λ (ss : List StreamToken). ss ++ signs_in rest)
    (sym (append-nil (signs_of (element (face l) (along (text l.shown) held)))))
before_by RoundChildren s l held rest = ap (λ (ss : List StreamToken). ss ++ signs_in rest) (sym (append-nil (signs_of (element (face l) held))))
before_by (AsSection n) s l held rest = ap (λ (ss : List StreamToken). ss ++ signs_in rest) (sym (append-nil (signs_of (element (face l) held))))
before_by Unwritten s l held rest = ap (λ (ss : List StreamToken). ss ++ signs_in rest) (sym (append-nil (signs_of (element (face l) held))))

before_rest : (t : Tree) (rest : Plains) → signs_in (read_before t rest) ≡ signs_in (read_before t ended) ++ signs_in rest
before_rest (tree l ts) rest = before_by (writing l.kind) (showing l.kind) l (all_read ts) rest

read_push : (ns : List Node) (n : Node) → signs_in (all_read (views (ns ++ n ∷ []))) ≡ signs_in (all_read (views ns)) ++ signs_in (read_before (view n) ended)
read_push [] n = refl
read_push (m ∷ ns) n =
    before_rest (view m) (all_read (views (ns ++ n ∷ []))) ∙ ap (λ ss. signs_in (read_before (view m) ended) ++ ss) (read_push ns n)
    ∙ sym (append_assoc (signs_in (read_before (view m) ended)) (signs_in (all_read (views ns))) (signs_in (read_before (view n) ended)))
    ∙ ap (λ ss. ss ++ signs_in (read_before (view n) ended)) (sym (before_rest (view m) (all_read (views ns))))

pub read_turn : (a b c : List StreamToken) (ns : List Node) (i : ℕ) (n : Node) → i < length ns → n ≡ get_or ns i n
    → b ≡ a ++ signs_in (all_read (views (take i ns))) → c ≡ b ++ signs_in (read_before (view n) ended)
    → c ≡ a ++ signs_in (all_read (views (take (i + 1) ns)))
read_turn a b c ns i n lt is h k =
    k ∙ ap (λ ss. ss ++ signs_in (read_before (view n) ended)) h ∙ append_assoc a (signs_in (all_read (views (take i ns))))
    (signs_in (read_before (view n) ended))
    ∙ ap (λ ss. a ++ ss) (sym (ap (λ ms. signs_in (all_read (views ms))) (take_turn ns i n lt is) ∙ read_push (take i ns) n))

-- an element is opened, its text and what it holds are added, and it is closed
pub read_element : (a b c d e : List StreamToken) (n : Node) → b ≡ a ++ bracket (opens (face (label_of (out-Node n)))) ∷ []
    → c ≡ b ++ map byte (own_character (writing (out-Node n).kind) (out-Node n).source.shown)
    → d ≡ c ++ signs_in (all_read (views (out-Node n).children)) → e ≡ d ++ bracket closes ∷ []
    → e ≡ a ++ element_signs (label_of (out-Node n)) (signs_in (all_read (views (out-Node n).children)))
read_element a b c d e n f g h k =
    let o : List StreamToken = bracket (opens (face (label_of (out-Node n)))) ∷ [] in
    let s : List StreamToken = map byte (own_character (writing (out-Node n).kind) (out-Node n).source.shown) in
    let r : List StreamToken = signs_in (all_read (views (out-Node n).children)) in
    k ∙ ap (λ ss. ss ++ bracket closes ∷ []) (h ∙ ap (λ ss. ss ++ r) (g ∙ ap (λ ss. ss ++ s) f) ∙ append_assoc (a ++ o) s r
    ∙ append_assoc a o (s ++ r)) ∙ append_assoc a (o ++ (s ++ r)) (bracket closes ∷ [])
