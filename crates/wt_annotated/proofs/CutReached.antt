-- Where texts and separators are cut anew, they stand as they should in each node that is reached.
use Rattle.std.proofs.Common.{◌≡◌, ℕ, Bool, true, false, Option, List, [], ◌∷◌, ◌++◌, length, refl, sym, ap, ap₂, ◌∙◌, subst, cond}
use Rattle.std.specs.Prelude.{◌||◌}
use Rattle.std.specs.List.{AllByRecursion}
use Rattle.wt_tree.specs.declared.kind.Ranges.{Ranges}
use Rattle.wt_tree.specs.declared.row.Texts.{Texts}
use Rattle.wt_tree.specs.declared.row.Texts.TheVariants.{Separators, Page, Bordered, OwnCharacter}
use Rattle.wt_tree.specs.declared.kind.Kind.{Kind}
use Rattle.wt_tree.specs.declared.kind.Kind.TheVariants as kind
use Rattle.wt_tree.specs.Kinds.{texts_of_kind}
use Rattle.wt_tree.specs.Leaves.{text_leaf, sep_leaf}
use Rattle.wt_recut.specs.Recut.{is_blank, is_text, is_border, leads_to_block, front_ranges, rest_ranges, joined_ranges, text_onto, joined_texts, from_start, front_of, rest_of, parts_before, text_before, cut_from, recut}
use Rattle.wt_tree.specs.Tiling.{is_group}
use Rattle.wt_tree.specs.Tree.{Tree, tree, Trees, none, more, label}
use Rattle.wt_recut.proofs.CutIs.{recut_is}
use Rattle.wt_recut.proofs.CutOnly.{cut_alone}
use Rattle.wt_annotated.specs.CutTexts.{cut_as, cut_texts, all_cut_texts, AreCutAs, HasCutTexts}
use Rattle.wt_annotated.specs.Reached.{reached, reached_in_all}

abbrev pub IsCut : List Tree → Type 0
IsCut ts = AllByRecursion HasCutTexts ts

both_cut : (us vs : List Tree) → IsCut us → IsCut vs → IsCut (us ++ vs)
both_cut [] vs g h = h
both_cut (u ∷ us) vs g h = (g.0, both_cut us vs g.1 h)

last_cut : (us vs : List Tree) → IsCut (us ++ vs) → IsCut vs
last_cut [] vs h = h
last_cut (u ∷ us) vs h = last_cut us vs h.1

onto_cut : (v : Bool) (r s : Option Ranges) (own bs : List ℕ) (t : Tree) (ts : Trees) → IsCut (reached_in_all (more t ts))
    → IsCut (reached_in_all (cond v (more (sep_leaf s bs) ts) (more (sep_leaf r own) (more t ts))))
onto_cut true r s own bs t ts h = (tt, last_cut (reached t) (reached_in_all ts) h)
onto_cut false r s own bs t ts h = (tt, h)

text_onto_cut : (r : Option Ranges) (own : List ℕ) (ts : Trees) → IsCut (reached_in_all ts) → IsCut (reached_in_all (text_onto r own ts))
text_onto_cut r [] ts h = h
text_onto_cut r (b ∷ bs) none h = (tt, tt)
text_onto_cut r (b ∷ bs) (more t ts) h = onto_cut (is_text t) r (joined_ranges r (label t).ranges) (b ∷ bs) ((b ∷ bs) ++ (label t).own) t ts h

first_cut : (us vs : List Tree) → IsCut (us ++ vs) → IsCut us
first_cut [] vs h = tt
first_cut (u ∷ us) vs h = (h.0, first_cut us vs h.1)

joined_cut_by : (v : Bool) (t : Tree) (ts : Trees) → IsCut (reached t) → IsCut (reached_in_all ts)
    → IsCut (reached_in_all (cond v (text_onto (label t).ranges (label t).own ts) (more t ts)))
joined_cut_by true t ts g h = text_onto_cut (label t).ranges (label t).own ts h
joined_cut_by false t ts g h = both_cut (reached t) (reached_in_all ts) g h

joined_cut : (ts : Trees) → IsCut (reached_in_all ts) → IsCut (reached_in_all (joined_texts ts))
joined_cut none h = tt
joined_cut (more t ts) h =
    joined_cut_by (is_text t) t (joined_texts ts) (first_cut (reached t) (reached_in_all ts) h) (joined_cut ts (last_cut (reached t) (reached_in_all ts) h))

whole_cut : (v : Bool) (r : Option Ranges) (own : List ℕ) (ts : Trees) → IsCut (reached_in_all ts)
    → IsCut (reached_in_all (more (cond v (sep_leaf r own) (text_leaf r own)) ts))
whole_cut true r own ts h = (tt, h)
whole_cut false r own ts h = (tt, h)

two_cut : (v : Bool) (p q r : Option Ranges) (front rest own : List ℕ) (ts : Trees) → IsCut (reached_in_all ts)
    → IsCut (reached_in_all (cond v (more (text_leaf p front) (more (sep_leaf q rest) ts)) (more (text_leaf r own) ts)))
two_cut true p q r front rest own ts h = (tt, (tt, h))
two_cut false p q r front rest own ts h = (tt, h)

parts_cut : (r : Option Ranges) (front rest : List ℕ) (ts : Trees) → IsCut (reached_in_all ts) → IsCut (reached_in_all (parts_before r front rest ts))
parts_cut r front [] ts h = (tt, h)
parts_cut r [] (b ∷ bs) ts h = whole_cut (is_blank (b ∷ bs)) r (b ∷ bs) ts h
parts_cut r (c ∷ cs) (b ∷ bs) ts h =
    two_cut (is_blank (b ∷ bs)) (front_ranges (length (c ∷ cs)) r) (rest_ranges (length (c ∷ cs)) r) r (c ∷ cs) (b ∷ bs) ((c ∷ cs) ++ (b ∷ bs)) ts h

cut_by : (v x : Bool) (t : Tree) (ts : Trees) → IsCut (reached t) → IsCut (reached_in_all ts)
    → IsCut (reached_in_all (cond v (text_before x (label t).ranges (label t).own ts) (more t ts)))
cut_by true x t ts g h = parts_cut (label t).ranges (front_of x (label t).own) (rest_of x (label t).own) ts h
cut_by false x t ts g h = both_cut (reached t) (reached_in_all ts) g h

cut_cut : (behind : Bool) (ts : Trees) → IsCut (reached_in_all ts) → IsCut (reached_in_all (cut_from behind ts))
cut_cut behind none h = tt
cut_cut behind (more t ts) h =
    cut_by (is_text t) (from_start behind (leads_to_block ts) (label t).own) t (cut_from (behind || is_border t) ts)
    (first_cut (reached t) (reached_in_all ts) h) (cut_cut (behind || is_border t) ts (last_cut (reached t) (reached_in_all ts) h))

as_cut : (x : Texts) (ts : Trees) → IsCut (reached_in_all ts) → AreCutAs x (cut_as x ts) × IsCut (reached_in_all (cut_as x ts))
as_cut Separators ts h = (tt, h)
as_cut Page ts h = (tt, h)
as_cut Bordered ts h = (recut_is ts, cut_cut false (joined_texts ts) (joined_cut ts h))
as_cut OwnCharacter ts h = (tt, h)

group_texts : (k : Kind) (ts : Trees) → is_group k ≡ true → AreCutAs (texts_of_kind k) ts
group_texts kind.Group ts e = tt
group_texts k ts e = absurd (subst (λ (b : Bool). cond b ⊥ (Unit {0})) e tt)

by_group : (g : Bool) (x : Texts) (ts us : Trees) → (g ≡ true → AreCutAs x ts) → IsCut (reached_in_all us)
    → AreCutAs x (cond g ts (cut_as x us)) × IsCut (cond g [] (reached_in_all (cond g ts (cut_as x us))))
by_group true x ts us q h = (q refl, tt)
by_group false x ts us q h = as_cut x us h

mutual
  pub cut_texts_cut : (t : Tree) → AllByRecursion HasCutTexts (reached (cut_texts t))
  cut_texts_cut (tree l ts) =
      by_group (is_group l.kind) (texts_of_kind l.kind) ts (all_cut_texts ts) (group_texts l.kind ts) (all_cut_texts_cut ts)

  all_cut_texts_cut : (ts : Trees) → IsCut (reached_in_all (all_cut_texts ts))
  all_cut_texts_cut none = tt
  all_cut_texts_cut (more t ts) = both_cut (reached (cut_texts t)) (reached_in_all (all_cut_texts ts)) (cut_texts_cut t) (all_cut_texts_cut ts)

-- ---- what stands as it should stays

as_stays : (x : Texts) (ts us : Trees) → us ≡ ts → AreCutAs x ts → cut_as x us ≡ ts
as_stays Separators ts us e h = e
as_stays Page ts us e h = e
as_stays Bordered ts us e h = ap recut e ∙ sym (cut_alone ts ts h refl)
as_stays OwnCharacter ts us e h = e

stays_by : (g : Bool) (x : Texts) (ts us : Trees) → AreCutAs x ts → IsCut (cond g [] (reached_in_all ts)) → (IsCut (reached_in_all ts) → us ≡ ts)
    → cond g ts (cut_as x us) ≡ ts
stays_by true x ts us h i f = refl
stays_by false x ts us h i f = as_stays x ts us (f i) h

mutual
  pub cut_texts_stay : (t : Tree) → AllByRecursion HasCutTexts (reached t) → cut_texts t ≡ t
  cut_texts_stay (tree l ts) h =
      ap (tree l) (stays_by (is_group l.kind) (texts_of_kind l.kind) ts (all_cut_texts ts) h.0 h.1 (λ i. all_cut_texts_stay ts i))

  all_cut_texts_stay : (ts : Trees) → IsCut (reached_in_all ts) → all_cut_texts ts ≡ ts
  all_cut_texts_stay none h = refl
  all_cut_texts_stay (more t ts) h =
      ap₂ more (cut_texts_stay t (first_cut (reached t) (reached_in_all ts) h)) (all_cut_texts_stay ts (last_cut (reached t) (reached_in_all ts) h))
