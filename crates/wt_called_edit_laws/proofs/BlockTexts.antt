-- The source of a block that holds its calls is what is on the page for its items.
use Rattle.std.proofs.Common.{◌≡◌, ℕ, ◌+◌, Bool, true, false, Option, None, List, [], ◌++◌, length, drop, refl, sym, ap, ◌∙◌, arith, length-append, append_assoc, append-nil}
use Rattle.std.specs.Prelude.{◌&&◌, ◌||◌}
use Rattle.std.specs.List.{list_all, list_any}
use Rattle.wt_tree.specs.Kinds.{is_leaf}
use Rattle.wt_tree.specs.Source.{flat}
use Rattle.wt_tree.specs.Tree.{Tree}
use Rattle.wt_span.specs.Items.{Item}
use Rattle.wt_span.specs.Origins.{OuterCall}
use Rattle.wt_span.specs.Cuts.{is_free}
use Rattle.wt_inline.specs.ItemTree.{ItemTree, inner, tree_items, held_by_all}
use Rattle.wt_annotated.specs.Annotated.{placed, annotated}
use Rattle.wt_annotated.specs.Clean.{is_page, is_body, own_by, is_clean}
use Rattle.wt_annotated.specs.CutTexts.{cut_texts}
use Rattle.wt_annotated.specs.GroupData.{group_data}
use Rattle.wt_annotated.specs.Grouped.{grouped}
use Rattle.wt_annotated.specs.Seams.{last_of, first_of, parted, text_from}
use Rattle.wt_annotated.specs.Walked.{clean_at, walked}
use Rattle.wt_annotated.proofs.AnnotatedTree.{annotated_source}
use Rattle.wt_annotated.proofs.Calls.{behind}
use Rattle.wt_annotated.proofs.CutTexts.{cut_source}
use Rattle.wt_annotated.proofs.Ends.{none_after}
use Rattle.wt_annotated.proofs.Seams.{before_call, after_call, free_is, before_more, after_first, page_is}
use Rattle.wt_annotated.proofs.Tiles.{flat_numbered}
use Rattle.wt_annotated.proofs.Walks.{walk_all}
use Rattle.wt_part_laws.specs.HeldCalls.{HoldsItsCalls, block_in}
use Rattle.wt_called_edit_laws.proofs.TextsMake.{flat_same}
use Rattle.wt_span.specs.Cuts.{call_of_item}

-- ---- a clean node (as `clean_is` of `proofs/Walks` of `wt_annotated`)

and_four : (a b c d w : Bool) → ((a && (b && (c && d))) && w) ≡ (a && (b && (c && (d && w))))
and_four true true true d w = refl
and_four true true false d w = refl
and_four true false c d w = refl
and_four false b c d w = refl

clean_by : (a b c d e f g h w : Bool) → a ≡ e → b ≡ f → c ≡ g → d ≡ h → ((a && (b && (c && d))) && w) ≡ (e && (f && (g && (h && w))))
clean_by a b c d e f g h w p q r s = rw (p, q, r, s) (and_four e f g h w)

clean_is : (all : List Item) (n : ℕ) (t : ItemTree) (after : List Item) → drop n all ≡ tree_items t ++ after
    → clean_at (before_call all n) (after_call all (n + length (tree_items t))) t ≡ is_clean all n t
clean_is all n (inner h o ts c) after e =
    let i : List Item = held_by_all ts in
    let one : drop n all ≡ o ++ ((i ++ c) ++ after) = e ∙ append_assoc o (i ++ c) after in
    let two : drop (n + length o) all ≡ i ++ (c ++ after) = behind all n o ((i ++ c) ++ after) one ∙ append_assoc i c after in
    let three : drop (n + length o + length i) all ≡ c ++ after = behind all (n + length o) i (c ++ after) two in
    let end : n + length (o ++ (i ++ c)) ≡ n + length o + length i + length c = omega (arith, length-append o (i ++ c), length-append i c) in
    let p : Option ℕ = after_call all (n + length (o ++ (i ++ c))) in
    let a3 : after_call all (n + length o + length i) ≡ first_of c p = after_first all (n + length o + length i) c after three
    ∙ ap (λ m. first_of c (after_call all m)) (sym end) in
    let a2 : after_call all (n + length o) ≡ first_of i (first_of c p) = after_first all (n + length o) i (c ++ after) two ∙ ap (first_of i) a3 in
    let a1 : after_call all n ≡ first_of o (first_of i (first_of c p)) = after_first all n o ((i ++ c) ++ after) one ∙ ap (first_of o) a2 in
    let b2 : before_call all (n + length o) ≡ last_of (before_call all n) o = before_more all n o ((i ++ c) ++ after) one in
    let b3 : before_call all (n + length o + length i) ≡ last_of (last_of (before_call all n) o) i = before_more all (n + length o) i (c ++ after) two
    ∙ ap (λ q. last_of q i) b2 in
    let b4 : before_call all (n + length o + length i + length c) ≡ last_of (last_of (last_of (before_call all n) o) i) c =
    before_more all (n + length o + length i) c after three ∙ ap (λ q. last_of q c) b3 in
    let f1 : parted (before_call all n) (first_of o (first_of i (first_of c p))) ≡ is_free all n = ap (parted (before_call all n)) (sym a1)
    ∙ sym (free_is all n) in
    let f2 : parted (last_of (before_call all n) o) (first_of i (first_of c p)) ≡ is_free all (n + length o) =
    ap (λ q. parted q (first_of i (first_of c p))) (sym b2) ∙ ap (parted (before_call all (n + length o))) (sym a2) ∙ sym (free_is all (n + length o)) in
    let f3 : parted (last_of (last_of (before_call all n) o) i) (first_of c p) ≡ is_free all (n + length o + length i) =
    ap (λ q. parted q (first_of c p)) (sym b3) ∙ ap (parted (before_call all (n + length o + length i))) (sym a3)
    ∙ sym (free_is all (n + length o + length i)) in
    let f4 : parted (last_of (last_of (last_of (before_call all n) o) i) c) p ≡ is_free all (n + length o + length i + length c) =
    ap (λ q. parted q p) (sym b4) ∙ ap (λ m. parted (before_call all (n + length o + length i + length c)) (after_call all m)) end
    ∙ sym (free_is all (n + length o + length i + length c)) in
    clean_by (parted (before_call all n) (first_of o (first_of i (first_of c p)))) (parted (last_of (before_call all n) o) (first_of i (first_of c p)))
    (parted (last_of (last_of (before_call all n) o) i) (first_of c p)) (parted (last_of (last_of (last_of (before_call all n) o) i) c) p)
    (is_free all n) (is_free all (n + length o)) (is_free all (n + length o + length i)) (is_free all (n + length o + length i + length c))
    (list_all is_page (own_by (is_leaf h.kind) o i c) && (is_body h.kind || list_any is_page (o ++ (i ++ c)))) f1 f2 f3 f4

-- ---- a block by itself

clean_alone : (t : ItemTree) → clean_at None None t ≡ true → is_clean (tree_items t) 0 t ≡ true
clean_alone t h =
    let n : ℕ = length (tree_items t) in
    let zero_more : 0 + n ≡ n = omega arith in
    let end : after_call (tree_items t) (0 + n) ≡ None = ap (after_call (tree_items t)) zero_more ∙ ap call_of_item (none_after (tree_items t)) in
    sym (clean_is (tree_items t) 0 t [] (sym (append-nil (tree_items t)))) ∙ ap (λ p. clean_at None p t) end ∙ h

placed_flat : (calls : List OuterCall) (t : ItemTree)
    → flat (annotated calls (group_data calls) t) ≡ flat (placed calls (group_data calls) (tree_items t) (grouped (tree_items t) 0 t))
unfolding annotated
placed_flat calls t =
    let u : Tree = placed calls (group_data calls) (tree_items t) (grouped (tree_items t) 0 t) in
    flat_numbered 1 (cut_texts u) ∙ cut_source u

-- of one that is clean
pub clean_flat : (calls : List OuterCall) (t : ItemTree) → clean_at None None t ≡ true → flat (cut_texts (block_in calls t)) ≡ text_from calls None (tree_items t)
clean_flat calls t clean =
    cut_source (block_in calls t)
    ∙ flat_same (walked calls (group_data calls) None 0 None t)
    ∙ ap flat (walk_all calls (group_data calls) t)
    ∙ sym (placed_flat calls t)
    ∙ annotated_source calls (group_data calls) t (clean_alone t clean)
    ∙ page_is calls (tree_items t)

pub block_flat : (calls : List OuterCall) (t : ItemTree) → HoldsItsCalls t → flat (cut_texts (block_in calls t)) ≡ text_from calls None (tree_items t)
block_flat calls t h = clean_flat calls t h.clean
