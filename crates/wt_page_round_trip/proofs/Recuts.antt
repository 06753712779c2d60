-- Where texts are cut anew stands neither a body nor a section that didn't stand there before.
use Rattle.std.proofs.Common.{◌≡◌, ℕ, Bool, true, false, Option, List, [], ◌∷◌, refl}
use Rattle.std.specs.Prelude.{◌||◌, ◌++◌, if◌then◌else◌, length}
use Rattle.std.proofs.lemmas.Bool.{or_parts, or_from}
use Rattle.wt_tree.specs.declared.kind.Ranges.{Ranges}
use Rattle.wt_tree.specs.Leaves.{text_leaf, sep_leaf}
use Rattle.wt_recut.specs.Recut.{is_blank, is_text, is_border, leads_to_block, front_ranges, rest_ranges, joined_ranges, text_onto, joined_texts, from_start, front_of, rest_of, parts_before, text_before, cut_from, recut}
use Rattle.wt_tree.specs.Tree.{Tree, Trees, none, more, label}
use Rattle.wt_checks.specs.PutBack.{has_frame, have_frame}

-- ---- joining

text_joined : (text : Bool) (r : Option Ranges) (bs : List ℕ) (t : Tree) (ts : Trees) → have_frame (more t ts) ≡ false
    → have_frame (if text then more (sep_leaf (joined_ranges r (label t).ranges) (bs ++ (label t).own)) ts else more (sep_leaf r bs) (more t ts)) ≡ false
text_joined true r bs t ts e = (or_parts (has_frame t) (have_frame ts) e).1
text_joined false r bs t ts e = e

text_onto_kept : (r : Option Ranges) (bs : List ℕ) (ts : Trees) → have_frame ts ≡ false → have_frame (text_onto r bs ts) ≡ false
text_onto_kept r [] ts e = e
text_onto_kept r (b ∷ bs) none e = refl
text_onto_kept r (b ∷ bs) (more t ts) e = text_joined (is_text t) r (b ∷ bs) t ts e

onto_by : (text : Bool) (t : Tree) (ts : Trees) → has_frame t ≡ false → have_frame ts ≡ false
    → have_frame (if text then text_onto (label t).ranges (label t).own ts else more t ts) ≡ false
onto_by true t ts e f = text_onto_kept (label t).ranges (label t).own ts f
onto_by false t ts e f = or_from (has_frame t) (have_frame ts) e f

joined_kept : (ts : Trees) → have_frame ts ≡ false → have_frame (joined_texts ts) ≡ false
joined_kept none e = refl
joined_kept (more t ts) e =
    let h = or_parts (has_frame t) (have_frame ts) e in
    onto_by (is_text t) t (joined_texts ts) h.0 (joined_kept ts h.1)

-- ---- cutting

leaf_kept : (blank : Bool) (r : Option Ranges) (bs : List ℕ) (ts : Trees) → have_frame ts ≡ false
    → have_frame (more (if blank then sep_leaf r bs else text_leaf r bs) ts) ≡ false
leaf_kept true r bs ts e = e
leaf_kept false r bs ts e = e

two_kept : (blank : Bool) (r : Option Ranges) (front rest : List ℕ) (ts : Trees) → have_frame ts ≡ false
    → have_frame (if blank then more (text_leaf (front_ranges (length front) r) front) (more (sep_leaf (rest_ranges (length front) r) rest) ts)
    else more (text_leaf r (front ++ rest)) ts) ≡ false
two_kept true r front rest ts e = e
two_kept false r front rest ts e = e

parts_kept : (r : Option Ranges) (front rest : List ℕ) (ts : Trees) → have_frame ts ≡ false → have_frame (parts_before r front rest ts) ≡ false
parts_kept r front [] ts e = e
parts_kept r [] (b ∷ bs) ts e = leaf_kept (is_blank (b ∷ bs)) r (b ∷ bs) ts e
parts_kept r (c ∷ cs) (b ∷ bs) ts e = two_kept (is_blank (b ∷ bs)) r (c ∷ cs) (b ∷ bs) ts e

cut_by : (text all : Bool) (t : Tree) (ts : Trees) → has_frame t ≡ false → have_frame ts ≡ false
    → have_frame (if text then text_before all (label t).ranges (label t).own ts else more t ts) ≡ false
cut_by true all t ts e f = parts_kept (label t).ranges (front_of all (label t).own) (rest_of all (label t).own) ts f
cut_by false all t ts e f = or_from (has_frame t) (have_frame ts) e f

cut_kept : (behind : Bool) (ts : Trees) → have_frame ts ≡ false → have_frame (cut_from behind ts) ≡ false
cut_kept behind none e = refl
cut_kept behind (more t ts) e =
    let h = or_parts (has_frame t) (have_frame ts) e in
    cut_by (is_text t) (from_start behind (leads_to_block ts) (label t).own) t (cut_from (behind || is_border t) ts) h.0
    (cut_kept (behind || is_border t) ts h.1)

pub recut_kept : (ts : Trees) → have_frame ts ≡ false → have_frame (recut ts) ≡ false
recut_kept ts e = cut_kept false (joined_texts ts) (joined_kept ts e)
