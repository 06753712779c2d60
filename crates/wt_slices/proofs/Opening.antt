-- The children of a body, one by one.
use Rattle.std.proofs.Common.{◌≡◌, ◌<◌, ◌≤◌, ℕ, ◌+◌, Bool, true, false, List, [], ◌∷◌, ◌++◌, length, take, get_or, map, refl, sym, ap, ◌∙◌, append_assoc}
use Rattle.std.specs.Prelude.{if◌then◌else◌}
use Rattle.std.proofs.lemmas.List.{take_more, take_all}
use Rattle.wt_tree.specs.Kinds.{is_section}
use Rattle.wt_tree.specs.Opened.{opened, opened_before}
use Rattle.wt_tree.specs.Tree.{Tree, Trees, none, more, trees, listed}
use Rattle.wt_tree.specs.View.{view, views}
use Rattle.wt_tree.specs.declared.node.Node.{Node, out-Node}
use Rattle.wt_recut.proofs.Openings.{listed_opened}
use Rattle.wt_tree.proofs.Views.{view_out}

pub trees_listed : (ts : Trees) → trees (listed ts) ≡ ts
trees_listed none = refl
trees_listed (more t ts) = ap (λ us. more t us) (trees_listed ts)

-- what the first of these nodes give
abbrev pub opened_list : List Node → List Tree
opened_list ns = listed (opened (views ns))

opened_push : (ns : List Node) (n : Node) → opened_list (ns ++ n ∷ []) ≡ opened_list ns ++ listed (opened_before (view n) none)
opened_push [] n = refl
opened_push (m ∷ ns) n =
    listed_opened (view m) (views (ns ++ n ∷ []))
    ∙ ap (λ es. listed (opened_before (view m) none) ++ es) (opened_push ns n)
    ∙ sym (append_assoc (listed (opened_before (view m) none)) (opened_list ns) (listed (opened_before (view n) none)))
    ∙ ap (λ es. es ++ listed (opened_before (view n) none)) (sym (listed_opened (view m) (views ns)))

pub opened_turn : (ns : List Node) (i : ℕ) (n : Node) (a b c : List Tree) → i < length ns → n ≡ get_or ns i n
    → b ≡ a ++ opened_list (take i ns) → c ≡ b ++ listed (opened_before (view n) none) → c ≡ a ++ opened_list (take (i + 1) ns)
opened_turn ns i n a b c lt is h k =
    k ∙ ap (λ es. es ++ listed (opened_before (view n) none)) h
    ∙ append_assoc a (opened_list (take i ns)) (listed (opened_before (view n) none))
    ∙ ap (λ es. a ++ es) (sym (opened_push (take i ns) n)
    ∙ ap opened_list (sym (take_more ns i n lt ∙ ap (λ (x : Node). take i ns ++ x ∷ []) (sym is))))

opened_out : (n : Node) → opened_before (view n) none ≡ (if is_section (out-Node n).kind then opened (views (out-Node n).children) else more (view n) none)
opened_out n =
    ap (λ (t : Tree). opened_before t none) (view_out n)
    ∙ ap (λ (t : Tree). if is_section (out-Node n).kind then opened (views (out-Node n).children) else more t none) (sym (view_out n))

pub pushed_other : (n : Node) (b : Bool) (xs : List Tree) → b ≡ is_section (out-Node n).kind → b ≡ false
    → xs ++ view n ∷ [] ≡ xs ++ listed (opened_before (view n) none)
pushed_other n b xs e f =
    ap (λ ts. xs ++ listed ts) (sym (opened_out n
    ∙ ap (λ c. if c then opened (views (out-Node n).children) else more (view n) none) (sym e ∙ f)))

pub pushed_section : (n : Node) (b : Bool) (ns : List Node) (i : ℕ) (xs ys : List Tree) → b ≡ is_section (out-Node n).kind → b ≡ true
    → ns ≡ (out-Node n).children → length ns ≤ i → ys ≡ xs ++ opened_list (take i ns) → ys ≡ xs ++ listed (opened_before (view n) none)
pushed_section n b ns i xs ys e f are ge h =
    h ∙ ap (λ ms. xs ++ opened_list ms) (take_all i ns ge ∙ are)
    ∙ ap (λ ts. xs ++ listed ts) (sym (opened_out n
    ∙ ap (λ c. if c then opened (views (out-Node n).children) else more (view n) none) (sym e ∙ f)))

pub opened_all : (ns ms : List Node) (i : ℕ) (ys : List Tree) → ns ≡ ms → length ns ≤ i → ys ≡ opened_list (take i ns) → trees ys ≡ opened (views ms)
opened_all ns ms i ys are ge h =
    ap trees (h ∙ ap opened_list (take_all i ns ge ∙ are)) ∙ trees_listed (opened (views ms))

pub children_all : (ns ms : List Node) (i : ℕ) (ys : List Tree) → ns ≡ ms → length ns ≤ i → ys ≡ map view (take i ns) → trees ys ≡ views ms
children_all ns ms i ys are ge h = ap trees (h ∙ ap (map view) (take_all i ns ge ∙ are))
