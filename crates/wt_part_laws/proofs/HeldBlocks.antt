-- Blocks that hold their calls: those of the page alone, those in which calls give something, and those of texts of which calls give some.
use Rattle.std.proofs.Common.{◌≡◌, ℕ, ◌+◌, Bool, true, false, Option, None, List, [], ◌∷◌, ◌++◌, length, refl, ap, ap₂, ◌∙◌, inl}
use Rattle.std.specs.Prelude.{◌&&◌, ◌||◌}
use Rattle.std.specs.List.{list_all, list_any}
use Rattle.wt_tree.specs.Kinds.{is_leaf}
use Rattle.wt_tree.specs.Tree.{tree, Trees, trees}
use Rattle.wt_span.specs.Items.{Item, sources}
use Rattle.wt_span.specs.Origins.{OuterCall}
use Rattle.wt_inline.specs.ItemTree.{Head, ItemTree, inner, forest, held_by_all}
use Rattle.wt_inline.specs.declared.loose.Loose.TheVariants.{Text, Sep}
use Rattle.wt_inline.specs.Parts.{Part, loose, node, children}
use Rattle.wt_annotated.specs.Annotated.{kept_label}
use Rattle.wt_annotated.specs.Clean.{is_page, is_body, own_by}
use Rattle.wt_annotated.specs.GroupData.{group_data}
use Rattle.wt_annotated.specs.Seams.{last_of, first_of, parted, text_from}
use Rattle.wt_annotated.specs.Walked.{clean_at, near_runs, near}
use Rattle.wt_annotated.specs.WithoutCalls.{inside_by}
use Rattle.wt_annotated.proofs.Ends.{both}
use Rattle.wt_part_laws.specs.Placeless.{placeless_label, all_placeless}
use Rattle.wt_part_laws.specs.Rounded.{IsOwn, AreOwn}
use Rattle.wt_part_laws.specs.HeldCalls.{block_in, HoldsItsCalls, AllHold, IsRoundTexts, block_of_texts, IsRoundGiven, block_of_pieces}
use Rattle.wt_part_laws.specs.CallTexts.{AreOwnOrTexts, all_in_page}
use Rattle.wt_part_laws.specs.CallPieces.{AreOwnOrGiven, call_pieces, pieces_in_page}
use Rattle.wt_part_laws.proofs.SameWalks.{label_same}
use Rattle.wt_part_laws.proofs.OwnWalks.{OfPage, behind_free, before_free, last_own, first_own, text_own, own_clean, has_page}
use Rattle.wt_part_laws.proofs.CallTexts.{children_are}
use Rattle.wt_part_laws.proofs.CallPieces.{as_pieces, given_children_are}

-- ---- of the page alone

pub own_holds : (t : ItemTree) → IsOwn t → HoldsItsCalls t
own_holds t h = record { some = has_page t h.has_items; clean = own_clean None None t h.of_page (has_page t h.has_items) }

pub all_own_hold : (t : ℕ → ItemTree) (ns : List ℕ) → AreOwn t ns → AllHold t ns
all_own_hold t [] h = tt
all_own_hold t (n ∷ ns) h = (own_holds (t n) h.0, all_own_hold t ns h.1)

-- ---- of what calls give

some_page : (x : Item) (xs : List Item) → OfPage (x ∷ xs) → list_any is_page (x ∷ xs) ≡ true
some_page x xs e = or_first (is_page x) (list_any is_page xs) (both (is_page x) (list_all is_page xs) e).0
  where
    or_first : (v w : Bool) → v ≡ true → (v || w) ≡ true
    or_first true w e = refl
    or_first false w e = cc

-- where it begins the cut behind the opening is free, and the one before the closing where it ends
behind_opening : (q : List Item) (first : Option ℕ) → OfPage q → parted (last_of None q) first ≡ true
behind_opening [] first e = behind_free None first refl
behind_opening (x ∷ q) first e = behind_free (last_of None (x ∷ q)) first (last_own None (x ∷ q) e (some_page x q e))

before_closing : (last : Option ℕ) (c : List Item) → OfPage c → parted last (first_of c None) ≡ true
before_closing last [] e = before_free last None refl
before_closing last (x ∷ c) e = before_free last (first_of (x ∷ c) None) (first_own (x ∷ c) None e (some_page x c e))

-- whatever is behind
first_any : (o : Option ℕ) (xs : List Item) (p : Option ℕ) → parted o (first_of xs p) ≡ true → parted o (first_of xs None) ≡ true
first_any o [] p e = before_free o None refl
first_any o (x ∷ xs) p e = e

page_joined : (xs ys : List Item) → OfPage xs → OfPage ys → OfPage (xs ++ ys)
page_joined [] ys e f = f
page_joined (x ∷ xs) ys e f =
    let r = both (is_page x) (list_all is_page xs) e in ap (λ (v : Bool). v && list_all is_page (xs ++ ys)) r.0 ∙ page_joined xs ys r.1 f

own_joined : (leaf : Bool) (q i c : List Item) → leaf ≡ false → OfPage q → OfPage c → OfPage (own_by leaf q i c)
own_joined true q i c e f g = let no : true ≡ false = e in absurd (cc)
own_joined false q i c e f g = page_joined q c f g

all_true : (a b c d e f : Bool) → a ≡ true → b ≡ true → c ≡ true → d ≡ true → e ≡ true → f ≡ true → ((a && (b && (c && d))) && (e && f)) ≡ true
all_true true true true true true true p q r s t u = refl
all_true false b c d e f p q r s t u = cc
all_true true false c d e f p q r s t u = cc
all_true true true false d e f p q r s t u = cc
all_true true true true false e f p q r s t u = cc
all_true true true true true false f p q r s t u = cc
all_true true true true true true false p q r s t u = cc

or_last : (v w : Bool) → w ≡ true → (v || w) ≡ true
or_last true w e = refl
or_last false w e = e

inside_is : (leaf : Bool) (us : Trees) → leaf ≡ false → inside_by leaf us ≡ us
inside_is true us e = let no : true ≡ false = e in absurd (cc)
inside_is false us e = refl

-- its nodes
walked_as : (h : Head) (q : List Item) (ps : List Part) (c : List Item) → IsRoundGiven h q ps c → (calls : List OuterCall) (us : Trees)
    → ((o : Option ℕ) (at : ℕ) (p : Option ℕ) → parted o (first_of (held_by_all (forest (children ps))) None) ≡ true
    → all_placeless (trees (near_runs calls (group_data calls) (near calls (group_data calls) o at p (forest (children ps))))) ≡ us)
    → block_in calls (inner h q (forest (children ps)) c) ≡ tree (placeless_label (kept_label false h 0 [] (sources q) (sources c))) us
walked_as h q ps c r calls us f =
    let i : List Item = held_by_all (forest (children ps)) in
    let o : Option ℕ = last_of None q in
    let n : Option ℕ = last_of o i in
    let all : List ℕ = text_from calls None (q ++ (i ++ c)) in
    let at : ℕ = 0 + length (text_from calls None q) in
    let inside : Trees = trees (near_runs calls (group_data calls) (near calls (group_data calls) o at (first_of c None) (forest (children ps)))) in
    ap₂ (λ l ts. tree l ts)
    (label_same (is_leaf h.kind) h 0 0 all (text_from calls None q) (text_from calls n c) all (sources q) (sources c) refl
    (text_own calls None q r.own_opening) (text_own calls n c r.own_closing)
    ∙ ap (λ (v : Bool). placeless_label (kept_label v h 0 all (sources q) (sources c))) r.no_leaf)
    (ap all_placeless (inside_is (is_leaf h.kind) inside r.no_leaf)
    ∙ f o at (first_of c None) (first_any o i (first_of c None) (behind_opening q (first_of i (first_of c None)) r.own_opening)))

given_clean : (h : Head) (q : List Item) (ps : List Part) (c : List Item) → IsRoundGiven h q ps c → clean_at None None (inner h q (forest (children ps)) c) ≡ true
given_clean h q ps c r =
    let i : List Item = held_by_all (forest (children ps)) in
    let first : Option ℕ = first_of i (first_of c None) in
    let last : Option ℕ = last_of (last_of None q) i in
    all_true (parted None (first_of q first)) (parted (last_of None q) first) (parted last (first_of c None)) (parted (last_of last c) None)
    (list_all is_page (own_by (is_leaf h.kind) q i c)) (is_body h.kind || list_any is_page (q ++ (i ++ c)))
    (behind_free None (first_of q first) refl) (behind_opening q first r.own_opening) (before_closing last c r.own_closing) (before_free (last_of last c) None refl)
    (own_joined (is_leaf h.kind) q i c r.no_leaf r.own_opening r.own_closing) (or_last (is_body h.kind) (list_any is_page (q ++ (i ++ c))) r.some)

pub given_block_is : (calls : List OuterCall) (h : Head) (q : List Item) (ps : List Part) (c : List Item) → IsRoundGiven h q ps c
    → block_in calls (inner h q (forest (children ps)) c) ≡ block_of_pieces calls h q ps c
given_block_is calls h q ps c r =
    walked_as h q ps c r calls (pieces_in_page calls (call_pieces (children ps))) (λ o at p e. given_children_are calls o at p ps r.parts e)

pub given_hold : (h : Head) (q : List Item) (ps : List Part) (c : List Item) → IsRoundGiven h q ps c → HoldsItsCalls (inner h q (forest (children ps)) c)
given_hold h q ps c r = record { some = r.some; clean = given_clean h q ps c r }

-- ---- of texts

given_parts : (ps : List Part) → AreOwnOrTexts ps → AreOwnOrGiven ps
given_parts [] h = tt
given_parts (loose Text o b ∷ ps) h = given_parts ps h
given_parts (loose Sep o b ∷ ps) h = absurd h
given_parts (node t ∷ ps) h = (inl h.0, given_parts ps h.1)

round_given : (h : Head) (q : List Item) (ps : List Part) (c : List Item) → IsRoundTexts h q ps c → IsRoundGiven h q ps c
round_given h q ps c r = record {
  no_leaf = r.no_leaf;
  own_opening = r.own_opening;
  own_closing = r.own_closing;
  parts = as_pieces ps (given_parts ps r.parts);
  some = r.some;
}

pub texts_hold : (h : Head) (q : List Item) (ps : List Part) (c : List Item) → IsRoundTexts h q ps c → HoldsItsCalls (inner h q (forest (children ps)) c)
texts_hold h q ps c r = given_hold h q ps c (round_given h q ps c r)

pub block_is : (calls : List OuterCall) (h : Head) (q : List Item) (ps : List Part) (c : List Item) → IsRoundTexts h q ps c
    → block_in calls (inner h q (forest (children ps)) c) ≡ block_of_texts calls h q ps c
block_is calls h q ps c r =
    walked_as h q ps c (round_given h q ps c r) calls (all_in_page calls (children ps)) (λ o at p e. children_are calls o at p ps r.parts e)
