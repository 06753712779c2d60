-- What is added to the characters and brackets of a tree that is read from left to right.
use Rattle.std.proofs.Common.{◌≡◌, ℕ, ◌+◌, ◌<◌, Bool, true, false, List, [], ◌∷◌, ◌++◌, length, map, take, drop, get_or, refl, sym, ap, ◌∙◌, append_assoc, append-nil, length-append}
use Rattle.std.specs.List.{flat_map}
use Rattle.std.specs.Bool.{Decides}
use Rattle.std.proofs.lemmas.List.{take_more, drop_more}
use Rattle.std.proofs.lemmas.Grind.{flat_map-append}
use Rattle.wt_tree.specs.declared.compare.Shown.{Shown}
use Rattle.wt_tree.specs.declared.compare.Bracket.{Bracket as Mark}
use Rattle.wt_tree.specs.declared.node.Node.{Node, out-Node}
use Rattle.wt_tree.specs.declared.kind.Showing.TheVariants.{Element}
use Rattle.wt_tree.specs.Kinds.{showing}
use Rattle.wt_tree.specs.Plain.{Face, face, plain}
use Rattle.wt_tree.specs.Shown.{bracket_of, brackets_of, Adds, IsShownOf}
use Rattle.wt_tree.specs.Stream.{opens, closes, StreamToken, byte, bracket, signs_by, signs, signs_of_all, bytes_in, brackets_in}
use Rattle.wt_tree.specs.Tree.{Tree}
use Rattle.wt_tree.specs.View.{label_of, attrs_of, view, views}
use Rattle.wt_tree.specs.declared.node.Attr.{Attr}
use Rattle.wt_tree.specs.declared.kind.AttrName.{AttrName}
use Rattle.wt_tree.proofs.Streams.{bytes_join, brackets_join, bytes_of_text, brackets_of_text, one_stream, same_plain, same_signs}
use Rattle.wt_tree.proofs.Views.{view_out}

pub adds_none : (a : Shown) → Adds a a []
adds_none a = record { text = sym (append-nil a.text.items); brackets = sym (append-nil (brackets_of a.brackets.items)) }

pub adds_more : (a b c : Shown) (s t : List StreamToken) → Adds a b s → Adds b c t → Adds a c (s ++ t)
adds_more a b c s t h k = record {
  text = k.text ∙ ap (λ xs. xs ++ bytes_in t) h.text ∙ append_assoc a.text.items (bytes_in s) (bytes_in t)
      ∙ ap (λ xs. a.text.items ++ xs) (sym (bytes_join s t));
  brackets =
      let n : length b.text.items ≡ length a.text.items + length (bytes_in s) = ap length h.text ∙ length-append a.text.items (bytes_in s) in
      k.brackets ∙ ap (λ xs. xs ++ brackets_in (length b.text.items) t) h.brackets
      ∙ append_assoc (brackets_of a.brackets.items) (brackets_in (length a.text.items) s) (brackets_in (length b.text.items) t)
      ∙ ap (λ (m : ℕ). brackets_of a.brackets.items ++ (brackets_in (length a.text.items) s ++ brackets_in m t)) n
      ∙ ap (λ xs. brackets_of a.brackets.items ++ xs) (sym (brackets_join (length a.text.items) s t));
}

pub adds_text : (a b : Shown) (bs : List ℕ) → b.text.items ≡ a.text.items ++ bs → b.brackets.items ≡ a.brackets.items → Adds a b (map byte bs)
adds_text a b bs e f = record {
  text = e ∙ ap (λ xs. a.text.items ++ xs) (sym (bytes_of_text bs));
  brackets =
      ap brackets_of f ∙ sym (append-nil (brackets_of a.brackets.items)) ∙ ap (λ xs. brackets_of a.brackets.items ++ xs)
      (sym (brackets_of_text (length a.text.items) bs));
}

-- a node by what its kind shows
pub signs_shown : (n : Node) → signs (view n) ≡ signs_by (showing (out-Node n).kind) (label_of (out-Node n)) (signs_of_all (views (out-Node n).children))
signs_shown n = rw (view_out n)

pub signs_element : (n : Node) (a b c d : Shown) → showing (out-Node n).kind ≡ Element
    → Adds a b (bracket (opens (face (label_of (out-Node n)))) ∷ []) → Adds b c (signs_of_all (views (out-Node n).children))
    → Adds c d (bracket closes ∷ [])
    → Adds a d (signs (view n))
signs_element n a b c d e h k l =
    let f : signs (view n) ≡ bracket (opens (face (label_of (out-Node n)))) ∷ (signs_of_all (views (out-Node n).children) ++ (bracket closes ∷ [])) =
    signs_shown n ∙ ap (λ s. signs_by s (label_of (out-Node n)) (signs_of_all (views (out-Node n).children))) e in
    rw f (adds_more a b d (bracket (opens (face (label_of (out-Node n)))) ∷ []) (signs_of_all (views (out-Node n).children) ++ (bracket closes ∷ [])) h
    (adds_more b c d (signs_of_all (views (out-Node n).children)) (bracket closes ∷ []) k l))

pub signs_views : (ns : List Node) → signs_of_all (views ns) ≡ flat_map (λ n. signs (view n)) ns
signs_views [] = refl
signs_views (n ∷ ns) = ap (λ s. signs (view n) ++ s) (signs_views ns)

-- one turn of the loop over the children
pub adds_turn : (a b c : Shown) (xs : List Node) (i : ℕ) (x : Node) → i < length xs → x ≡ get_or xs i x
    → Adds a b (flat_map (λ n. signs (view n)) (take i xs)) → Adds b c (signs (view x))
    → Adds a c (flat_map (λ n. signs (view n)) (take (i + 1) xs))
adds_turn a b c xs i x lt is h k =
    let f : Node → List StreamToken = λ n. signs (view n) in
    let e : flat_map f (take (i + 1) xs) ≡ flat_map f (take i xs) ++ signs (view x) =
    ap (flat_map f) (take_more xs i x lt ∙ ap (λ y. take i xs ++ y ∷ []) (sym is)) ∙ flat_map-append f (take i xs) (x ∷ [])
    ∙ ap (λ s. flat_map f (take i xs) ++ s) (append-nil (signs (view x))) in
    rw e (adds_more a b c (flat_map f (take i xs)) (signs (view x)) h k)

-- two lists of brackets, from a place on
pub same_from : (xs ys : List Mark) (i : ℕ) (x y : Mark) → i < length xs → i < length ys → x ≡ get_or xs i x → y ≡ get_or ys i y
    → ((brackets_of (drop i xs) ≡ brackets_of (drop i ys)) → (bracket_of x ≡ bracket_of y) × (brackets_of (drop (i + 1) xs) ≡ brackets_of (drop (i + 1) ys)))
    × ((bracket_of x ≡ bracket_of y) → brackets_of (drop (i + 1) xs) ≡ brackets_of (drop (i + 1) ys) → brackets_of (drop i xs) ≡ brackets_of (drop i ys))
same_from xs ys i x y m n a b =
    let e : drop i xs ≡ x ∷ drop (i + 1) xs = drop_more xs i x m ∙ ap (λ z. z ∷ drop (i + 1) xs) (sym a) in
    let f : drop i ys ≡ y ∷ drop (i + 1) ys = drop_more ys i y n ∙ ap (λ z. z ∷ drop (i + 1) ys) (sym b) in
    let g : brackets_of (drop i xs) ≡ bracket_of x ∷ brackets_of (drop (i + 1) xs) = ap brackets_of e in
    let h : brackets_of (drop i ys) ≡ bracket_of y ∷ brackets_of (drop (i + 1) ys) = ap brackets_of f in (
      λ k. let l : bracket_of x ∷ brackets_of (drop (i + 1) xs) ≡ bracket_of y ∷ brackets_of (drop (i + 1) ys) = sym g ∙ k ∙ h in (cc l, cc l),
      λ k l. let r : bracket_of x ∷ brackets_of (drop (i + 1) xs) ≡ bracket_of y ∷ brackets_of (drop (i + 1) ys) = cc (k, l) in g ∙ r ∙ sym h,
    )

-- two plain views are the same where their characters and brackets are
pub plain_decides : (t u : Tree) (a b : Shown) (same : Bool) → IsShownOf t a → IsShownOf u b
    → Decides same ((brackets_of a.brackets.items ≡ brackets_of b.brackets.items) × (a.text.items ≡ b.text.items))
    → Decides same (plain t ≡ plain u)
plain_decides t u a b same h k d = (
  λ e. let p = d.0 e in same_plain t u (one_stream 0 (signs t) (signs u) (sym h.text ∙ p.1 ∙ k.text) (sym h.brackets ∙ p.0 ∙ k.brackets)),
  λ e. let s = same_signs t u e in d.1 (h.brackets ∙ ap (brackets_in 0) s ∙ sym k.brackets, h.text ∙ ap bytes_in s ∙ sym k.text),
)

pub attrs_one : (xs ys : List Attr) → attrs_of xs ≡ attrs_of ys → xs ≡ ys
attrs_one [] [] e = refl
attrs_one [] (y ∷ ys) e = cc
attrs_one (x ∷ xs) [] e = cc
attrs_one (x ∷ xs) (y ∷ ys) e =
    let h : Path (AttrName × List ℕ) (x.name, x.value) (y.name, y.value) = cc in
    let t : attrs_of xs ≡ attrs_of ys = cc in
    let n : x.name ≡ y.name = ap (λ (p : AttrName × List ℕ). p.0) h in
    let v : x.value ≡ y.value = ap (λ (p : AttrName × List ℕ). p.1) h in
    let w : x ≡ y = λ i. record { name = n i; value = v i } in
    cc (w, attrs_one xs ys t)

-- the parts of a face
pub face_parts : (m n : Node) → face (label_of (out-Node m)) ≡ face (label_of (out-Node n))
    → ((out-Node m).kind ≡ (out-Node n).kind) × ((out-Node m).more.attrs ≡ (out-Node n).more.attrs) × ((out-Node m).more.mw ≡ (out-Node n).more.mw)
face_parts m n e = (ap (λ (f : Face). f.kind) e, attrs_one (out-Node m).more.attrs (out-Node n).more.attrs (ap (λ (f : Face). f.attrs) e), ap (λ (f : Face). f.mw) e)

pub face_whole : (m n : Node) → (out-Node m).kind ≡ (out-Node n).kind → (out-Node m).more.attrs ≡ (out-Node n).more.attrs
    → (out-Node m).more.mw ≡ (out-Node n).more.mw → face (label_of (out-Node m)) ≡ face (label_of (out-Node n))
face_whole m n k a w = λ i. record { kind = k i; attrs = attrs_of (a i); mw = w i }

-- what decides the rest decides both, where the first is known
pub decides_first : {P Q : Type 0} (r : Bool) → P → Decides r Q → Decides r (P × Q)
decides_first r p d = (λ e. (p, d.0 e), λ h. d.1 h.1)

pub false_is : false ≡ true → ⊥
false_is e = cc

pub decides_not : {P Q : Type 0} → (P → ⊥) → (Q → P) → Decides false Q
decides_not n f = (λ e. cc, λ q. absurd (n (f q)))
