-- The first space of each line of preformatted text is its open delimiter, or a skipped leaf.
use Rattle.std.proofs.Common.{◌≡◌, List, [], ◌∷◌, ◌++◌, map, take, drop, refl, ap, ◌∙◌, inl, inr, append-nil}
use Rattle.std.specs.Prelude.{if◌then◌else◌}
use Rattle.std.proofs.lemmas.Grind.{flat_map-append}
use Rattle.wt_span.specs.Items.{Item}
use Rattle.wt_inline.specs.declared.loose.Loose.TheVariants.{Text}
use Rattle.wt_inline.specs.ItemTree.{inner, tree_items}
use Rattle.wt_inline.specs.Parts.{Part, node, parts}
use Rattle.wt_context.specs.Line.{line_parts}
use Rattle.wt_page.specs.Rows.{Row}
use Rattle.wt_page.specs.Texts.{later_parts, skipped, later_pre, pre_parts, pre}
use Rattle.wt_page_laws.specs.Roles.{is_skipped}
use Rattle.wt_page_laws.specs.Members.{skipped_of, skipped_among, children_of, opening_of}
use Rattle.wt_page_laws.proofs.LineWords.{AreWords, text_words, line_words}
use Rattle.wt_page_laws.proofs.Told.{TellsNone, part_told, parts_told, children_told, words_told}

none_told : TellsNone skipped_of
none_told (inner h opening ts closing) (inl e) = ap (λ r. if is_skipped r then tree_items (inner h opening ts closing) ∷ [] else []) e
none_told (inner h opening ts closing) (inr e) = ap (λ r. if is_skipped r then tree_items (inner h opening ts closing) ∷ [] else []) e

told_both : (ps qs : List Part) → parts_told skipped_of (ps ++ qs) ≡ parts_told skipped_of ps ++ parts_told skipped_of qs
told_both ps qs = flat_map-append (part_told skipped_of) ps qs

behind_words : (ps qs : List Part) → AreWords ps → parts_told skipped_of (ps ++ qs) ≡ parts_told skipped_of qs
behind_words ps qs w = told_both ps qs ∙ ap (λ xs. xs ++ parts_told skipped_of qs) (words_told skipped_of none_told ps w)

later_told : (r : Row) → parts_told skipped_of (later_pre r) ≡ take 1 r.items ∷ []
later_told r =
    behind_words (parts Text r.lead) (node (skipped r) ∷ line_parts (drop 1 r.items)) (text_words r.lead)
    ∙ ap (λ xs. (take 1 r.items ++ []) ∷ xs) (words_told skipped_of none_told (line_parts (drop 1 r.items)) (line_words (drop 1 r.items)))
    ∙ ap (λ xs. xs ∷ []) (append-nil (take 1 r.items))

all_told : (break : List Item) (rs : List Row) → parts_told skipped_of (later_parts later_pre break rs) ≡ map (λ r. take 1 r.items) rs
all_told break [] = refl
all_told break (r ∷ rs) =
    behind_words (parts Text break) (later_pre r ++ later_parts later_pre r.ending rs) (text_words break)
    ∙ told_both (later_pre r) (later_parts later_pre r.ending rs)
    ∙ ap (λ xs. xs ++ parts_told skipped_of (later_parts later_pre r.ending rs)) (later_told r)
    ∙ ap (λ xs. take 1 r.items ∷ xs) (all_told r.ending rs)

pub pre_opened : (r : Row) (rs : List Row) → opening_of (pre (r ∷ rs)) ≡ take 1 r.items
unfolding pre
pre_opened r rs = refl

pub pre_skips : (r : Row) (rs : List Row) → skipped_among (children_of (pre (r ∷ rs))) ≡ map (λ s. take 1 s.items) rs
unfolding pre
pre_skips r rs =
    children_told skipped_of none_told (pre_parts (r ∷ rs))
    ∙ behind_words (line_parts (drop 1 r.items)) (later_parts later_pre r.ending rs) (line_words (drop 1 r.items))
    ∙ all_told r.ending rs
