-- What holds of blocks of prose and of what is sent for them, from any number and place on: one block before others.
use Rattle.std.proofs.Common.{arith, ◌≡◌, ◌≢◌, ℕ, zero, suc, ◌+◌, ◌≤◌, Bool, true, false, Option, Some, None, List, [], ◌∷◌, ◌++◌, length, take, refl, sym, ap, ◌∙◌, subst, append-nil, append_assoc}
use Rattle.std.specs.Prelude.{◌||◌, not, replicate}
use Rattle.std.specs.List.{flat_map, prefix_len}
use Rattle.std.proofs.Math.Seq.{take-append_seam}
use Rattle.std.proofs.lemmas.List.{length-append, reverse-append}
use Rattle.std.proofs.lemmas.Grind.{flat_map-append}
use Rattle.wt_tree.specs.declared.kind.Kind.TheVariants as kind
use Rattle.wt_tree.specs.declared.kind.Ranges.{Ranges}
use Rattle.wt_tree.specs.Plain.{element, Plains, ended, along, text_before}
use Rattle.wt_tree.specs.Source.{flat_of_all}
use Rattle.wt_tree.specs.Tiling.{NoneIsGroup}
use Rattle.wt_tree.specs.Tree.{Label, Tree, tree, Trees, none, more}
use Rattle.wt_span.specs.Items.{Item, source, sources}
use Rattle.wt_guards.specs.Guards.{nowiki}
use Rattle.wt_inline.specs.ItemTree.{ItemTree}
use Rattle.wt_checks.specs.PutBack.{have_frame}
use Rattle.wt_isolation.specs.OpenTags.{is_stop, bare_len, ends_open, any_ends_open}
use Rattle.wt_isolation.proofs.OpenTags.{none_bare_here}
use Rattle.wt_selser.specs.GroupFaults.{has_faulty_group}
use Rattle.wt_annotated.specs.Labels.{width, label_at}
use Rattle.wt_text_edit_laws.specs.LonePages.{of_items}
use Rattle.wt_text_edit_laws.specs.LoneEdits.{typed_in}
use Rattle.wt_text_edit_laws.proofs.Texts.TypedLeaves.{Leaf, letters, reference, guard, leaf_shown, leaf_source, AreShut, leaves_para}
use Rattle.wt_text_edit_laws.proofs.Texts.TypedShown.{leaves_show}
use Rattle.wt_text_edit_laws.proofs.Texts.TypedNodes.{nodes, next, behind, chars_source, nodes_flat, held_sources, none_open}
use Rattle.wt_text_edit_laws.proofs.Texts.TypedTrees.{none_faulty}
use Rattle.wt_typed_blocks.specs.Sent.{Sents, old_children, AreSent, all_show}
use Rattle.wt_typed_blocks.specs.Typed.{new_sources, TakeTexts, StandAt, AreUntangled}
use Rattle.wt_text_edit_laws.specs.ProseEdits.{Sending, retyped, kept, sent_children, AreKept}
use Rattle.wt_text_edit_laws.proofs.Prose.ProseTrees.{blocks_of, held, para_label, para_nodes, number_behind, items_behind, sep_items, sep_label, sep_tree}

-- ---- what stands in a paragraph

nodes_ungrouped : (n : ℕ) (before : List Item) (ls : List Leaf) → NoneIsGroup (nodes n before ls)
unfolding label_at nowiki
nodes_ungrouped n before [] = tt
nodes_ungrouped n before (letters b bs ∷ ls) = ((refl, tt), nodes_ungrouped (next n before (letters b bs)) (behind before (letters b bs)) ls)
nodes_ungrouped n before (reference c bs ∷ ls) = ((refl, tt), nodes_ungrouped (next n before (reference c bs)) (behind before (reference c bs)) ls)
nodes_ungrouped n before (guard ∷ ls) = ((refl, tt), nodes_ungrouped (next n before guard) (behind before guard) ls)

nodes_unframed : (n : ℕ) (before : List Item) (ls : List Leaf) → have_frame (nodes n before ls) ≡ false
unfolding label_at nowiki
nodes_unframed n before [] = refl
nodes_unframed n before (letters b bs ∷ ls) = nodes_unframed (next n before (letters b bs)) (behind before (letters b bs)) ls
nodes_unframed n before (reference c bs ∷ ls) = nodes_unframed (next n before (reference c bs)) (behind before (reference c bs)) ls
nodes_unframed n before (guard ∷ ls) = nodes_unframed (next n before guard) (behind before guard) ls

pub held_source : (ls : List Leaf) → sources (held ls ++ []) ≡ flat_map leaf_source ls
held_source ls = ap sources (append-nil (held ls)) ∙ held_sources ls

pub para_source : (n : ℕ) (before : List Item) (ls : List Leaf) → flat_of_all (para_nodes n before ls) ++ [] ≡ flat_map leaf_source ls
para_source n before ls = append-nil (flat_of_all (para_nodes n before ls)) ∙ nodes_flat (n + 1) (before ++ []) ls

-- ---- places

pub behind_source : (before ys : List Item) (q rest : List ℕ) → sources ys ≡ q → sources before ++ (q ++ rest) ≡ sources (before ++ ys) ++ rest
behind_source before ys q rest e =
    sym (append_assoc (sources before) q rest)
    ∙ ap (λ cs. (sources before ++ cs) ++ rest) (sym e)
    ∙ ap (λ cs. cs ++ rest) (sym (flat_map-append source before ys))

pub behind_width : (before ys : List Item) (q : List ℕ) → sources ys ≡ q → width (before ++ ys) ≡ width before + length q
behind_width before ys q e =
    ap length (flat_map-append source before ys) ∙ length-append (sources before) (sources ys) ∙ ap (λ cs. width before + length cs) e

-- ---- what holds of blocks

abbrev pub sent_of : List Sending → ℕ → List Item → List ItemTree → Sents
sent_of ds n before ts = sent_children ds (blocks_of n before ts)

abbrev pub paragraph_shown : List ℕ → Plains → Plains
paragraph_shown text rest = along (element (record { kind = kind.Para; attrs = []; mw = None }) (text_before text ended)) rest

-- Blocks with this source, for which this is sent, which gives this source in the new page and shows this.
pub record Facts (xs : List Item) (n : ℕ) (before : List Item) (ds : List Sending) (ts : List ItemTree) (was now : List ℕ) (shown : Plains) : Type 0 where
  pub old : old_children (sent_of ds n before ts) ≡ blocks_of n before ts
  pub ungrouped : NoneIsGroup (blocks_of n before ts)
  pub unframed : have_frame (blocks_of n before ts) ≡ false
  pub sent : AreKept ds (blocks_of n before ts) → AreSent (sent_of ds n before ts)
  pub takes : TakeTexts (sent_of ds n before ts)
  pub untangled : (page : List ℕ) → page ≡ sources before ++ was → AreUntangled (of_items xs) page (sent_of ds n before ts)
  pub flat : flat_of_all (blocks_of n before ts) ≡ was
  pub stand : StandAt (width before) (sent_of ds n before ts)
  pub new : new_sources (sent_of ds n before ts) ≡ now
  pub shows : all_show (sent_of ds n before ts) ≡ shown

pub facts_nothing : (xs : List Item) (n : ℕ) (before : List Item) → Facts xs n before [] [] [] [] ended
facts_nothing xs n before = record {
  old = refl;
  ungrouped = tt;
  unframed = refl;
  sent = λ h. tt;
  takes = tt;
  untangled = λ page e. tt;
  flat = refl;
  stand = tt;
  new = refl;
  shows = refl;
}

-- ---- line breaks before others

pub sep_source : (k : ℕ) → sources (sep_items k ++ []) ≡ replicate k 10
sep_source k = chars_source (replicate k 10)

pub facts_sep : (xs : List Item) (n : ℕ) (before : List Item) (k : ℕ) (u : Tree) (ds : List Sending) (ts : List ItemTree) (was now : List ℕ) (shown : Plains)
    → Facts xs (number_behind n before (sep_tree k)) (items_behind before (sep_tree k)) ds ts was now shown
    → Facts xs n before (kept u ∷ ds) (sep_tree k ∷ ts) (replicate k 10 ++ was) (replicate k 10 ++ now) shown
unfolding label_at
facts_sep xs n before k u ds ts was now shown f =
    let own : List Item = sep_items k ++ [] in
    let m : ℕ = number_behind n before (sep_tree k) in
    let after : List Item = items_behind before (sep_tree k) in
    let ss : Sents = sent_of ds m after ts in
    record {
      old = ap (λ us. more (tree (sep_label before k) none) us) f.old;
      ungrouped = ((refl, tt), f.ungrouped);
      unframed = f.unframed;
      sent = λ h. (h.0, f.sent h.1);
      takes = (tt, f.takes);
      untangled = λ page e. (tt, f.untangled page (e ∙ behind_source before own (replicate k 10) was (sep_source k)));
      flat = ap (λ cs. cs ++ flat_of_all (blocks_of m after ts)) (sep_source k) ∙ ap (λ cs. replicate k 10 ++ cs) f.flat;
      stand = (tt, subst (λ (at : ℕ). StandAt at ss) (behind_width before own (sources own) refl) f.stand);
      new = ap (λ cs. cs ++ new_sources ss) (sep_source k) ∙ ap (λ cs. replicate k 10 ++ cs) f.new;
      shows = f.shows;
    }

-- ---- a paragraph before others

para_width : (n : ℕ) (before : List Item) (ls : List Leaf) → width (before ++ (held ls ++ [])) ≡ width before + length (flat_of_all (para_nodes n before ls) ++ [])
para_width n before ls = behind_width before (held ls ++ []) (flat_of_all (para_nodes n before ls) ++ []) (held_source ls ∙ sym (para_source n before ls))

pub facts_kept : (xs : List Item) (n : ℕ) (before : List Item) (ls : List Leaf) (u : Tree) (ds : List Sending) (ts : List ItemTree) (was now : List ℕ) (shown : Plains)
    → Facts xs (number_behind n before (leaves_para ls)) (items_behind before (leaves_para ls)) ds ts was now shown
    → Facts xs n before (kept u ∷ ds) (leaves_para ls ∷ ts) (flat_map leaf_source ls ++ was) (flat_map leaf_source ls ++ now)
    (paragraph_shown (flat_map leaf_shown ls) shown)
unfolding label_at
facts_kept xs n before ls u ds ts was now shown f =
    let q : List ℕ = flat_map leaf_source ls in
    let m : ℕ = number_behind n before (leaves_para ls) in
    let after : List Item = items_behind before (leaves_para ls) in
    let ss : Sents = sent_of ds m after ts in
    record {
      old = ap (λ us. more (tree (para_label n before ls) (para_nodes n before ls)) us) f.old;
      ungrouped = ((refl, nodes_ungrouped (n + 1) (before ++ []) ls), f.ungrouped);
      unframed = ap (λ (b : Bool). b || have_frame (blocks_of m after ts)) (nodes_unframed (n + 1) (before ++ []) ls) ∙ f.unframed;
      sent = λ h. (h.0, f.sent h.1);
      takes = (tt, f.takes);
      untangled = λ page e. (tt, f.untangled page (e ∙ behind_source before (held ls ++ []) q was (held_source ls)));
      flat = ap (λ cs. cs ++ flat_of_all (blocks_of m after ts)) (para_source n before ls) ∙ ap (λ cs. q ++ cs) f.flat;
      stand = (tt, subst (λ (at : ℕ). StandAt at ss) (para_width n before ls) f.stand);
      new = ap (λ cs. cs ++ new_sources ss) (para_source n before ls) ∙ ap (λ cs. q ++ cs) f.new;
      shows =
          ap (λ ps. along (element (record { kind = kind.Para; attrs = []; mw = None }) ps) (all_show ss)) (leaves_show (n + 1) (before ++ []) ls ended)
          ∙ ap (λ rest. paragraph_shown (flat_map leaf_shown ls) rest) f.shows;
    }

all_false : (a b c : Bool) → a ≡ false → b ≡ false → c ≡ false → ((a || b) || c) ≡ false
all_false false false false e f g = refl
all_false true b c e f g = cc
all_false false true c e f g = cc
all_false false false true e f g = cc

pub facts_retyped : (xs : List Item) (n : ℕ) (before : List Item) (ls : List Leaf) (p t : Label) (text : List ℕ) (ds : List Sending) (ts : List ItemTree)
    (was now : List ℕ) (shown : Plains) → 1 ≤ n → ends_open (sources before) ≡ false → AreShut ls
    → Facts xs (number_behind n before (leaves_para ls)) (items_behind before (leaves_para ls)) ds ts was now shown
    → Facts xs n before (retyped p t text ∷ ds) (leaves_para ls ∷ ts) (flat_map leaf_source ls ++ was) (typed_in (flat_map leaf_source ls) text ++ now)
    (paragraph_shown text shown)
unfolding label_at
facts_retyped xs n before ls p t text ds ts was now shown le clear shut f =
    let q : List ℕ = flat_map leaf_source ls in
    let m : ℕ = number_behind n before (leaves_para ls) in
    let after : List Item = items_behind before (leaves_para ls) in
    let ss : Sents = sent_of ds m after ts in
    let us : Trees = para_nodes n before ls in
    let some : n ≢ 0 = omega (arith, le) in
    let ranged : ℕ → Option Ranges = λ (size : ℕ). Some (record { start = width before; end = width before + size; open_w = 0; close_w = 0 }) in
    record {
      old = ap (λ us. more (tree (para_label n before ls) (para_nodes n before ls)) us) f.old;
      ungrouped = ((refl, nodes_ungrouped (n + 1) (before ++ []) ls), f.ungrouped);
      unframed = ap (λ (b : Bool). b || have_frame (blocks_of m after ts)) (nodes_unframed (n + 1) (before ++ []) ls) ∙ f.unframed;
      sent = λ h. (some, f.sent h);
      takes = (tt, f.takes);
      untangled = λ page e. (
        all_false (ends_open (take (width before) page)) (any_ends_open us) (has_faulty_group (of_items xs) us)
            (ap (λ cs. ends_open (take (width before) cs)) e ∙ ap ends_open (take-append_seam (sources before) (q ++ was)) ∙ clear)
            (none_open (n + 1) (before ++ []) ls shut) (none_faulty (of_items xs) (n + 1) (before ++ []) ls),
        f.untangled page (e ∙ behind_source before (held ls ++ []) q was (held_source ls)),
      );
      flat = ap (λ cs. cs ++ flat_of_all (blocks_of m after ts)) (para_source n before ls) ∙ ap (λ cs. q ++ cs) f.flat;
      stand = (
        ap ranged (ap length (held_source ls ∙ sym (para_source n before ls))),
        subst (λ (at : ℕ). StandAt at ss) (para_width n before ls) f.stand,
      );
      new =
          ap (λ cs. cs ++ new_sources ss) (append-nil (typed_in (flat_of_all us ++ []) text) ∙ ap (λ cs. typed_in cs text) (para_source n before ls))
          ∙ ap (λ cs. typed_in q text ++ cs) f.new;
      shows = ap (λ rest. paragraph_shown text rest) f.shows;
    }

-- ---- behind a line break no tag is open

repeat_end : (k : ℕ) → replicate {A = ℕ} (suc k) 10 ≡ replicate k 10 ++ 10 ∷ []
repeat_end zero = refl
repeat_end (suc k) = ap (λ (bs : List ℕ). 10 ∷ bs) (repeat_end k)

break_end : (bs : List ℕ) → ends_open (bs ++ 10 ∷ []) ≡ false
break_end bs =
    let z : bare_len (bs ++ 10 ∷ []) ≡ 0 = ap (prefix_len (λ b. not (is_stop b))) (reverse-append bs (10 ∷ [])) in
    sym (none_bare_here (bs ++ 10 ∷ []) (bare_len (bs ++ 10 ∷ [])) refl z)

pub behind_breaks : (before : List Item) (k : ℕ) → ends_open (sources (items_behind before (sep_tree (suc k)))) ≡ false
behind_breaks before k =
    let own : List Item = sep_items (suc k) ++ [] in
    ap ends_open (flat_map-append source before own
    ∙ ap (λ cs. sources before ++ cs) (sep_source (suc k) ∙ repeat_end k)
    ∙ sym (append_assoc (sources before) (replicate k 10) (10 ∷ [])))
    ∙ break_end (sources before ++ replicate k 10)
