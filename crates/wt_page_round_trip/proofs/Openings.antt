-- What a body with its sections taken out fits to: the same trees, in place of the sections that held them.
use Rattle.std.proofs.Common.{◌≡◌, ℕ, suc, ◌+◌, Bool, true, false, Option, Some, None, Result, Ok, Err, List, [], ◌∷◌, refl, sym, ap, ◌∙◌, subst, codes}
use Rattle.std.specs.Prelude.{◌&&◌, ◌||◌, filter, if◌then◌else◌, IfOk, IfSome}
use Rattle.std.specs.Option.{option_map}
use Rattle.std.proofs.lemmas.Bool.{and_parts, or_parts}
use Rattle.wt_tree.specs.declared.kind.Kind.{Kind}
use Rattle.wt_tree.specs.declared.kind.Kind.TheVariants as kind
use Rattle.wt_tree.specs.Kinds.{is_section}
use Rattle.wt_tree.specs.Opened.{opened_before as tree_opened_before, all_opened_before as trees_opened_before}
use Rattle.wt_tree.specs.Leaves.{sep_leaf}
use Rattle.wt_recut.specs.Recut.{is_blank}
use Rattle.wt_tree.specs.Tree.{Label, Tree, tree, Trees, none as no_trees, more as one_more}
use Rattle.wt_html_grammar.specs.Markup.{Pair, Markups, text, node, empty, more}
use Rattle.wt_schema.specs.declared.why.FitWhy.TheVariants as why
use Rattle.wt_schema.specs.declared.standing.Standing.{Standing}
use Rattle.wt_schema.specs.declared.standing.Standing.TheVariants as stands
use Rattle.wt_schema.specs.Attributes.{value_of}
use Rattle.wt_schema.specs.Data.{Data, data_for}
use Rattle.wt_schema.specs.Fit.{Misfit, leaf_in, label_as, elements_of_all, texts_in, are_blank, onto, onto_told, with_children, one_piece, within, is_block_row, row_as, fits_place, fit_told, fit_as, fit_row, fit_nodes}
use Rattle.wt_schema.specs.Groups.{standing, open_by, is_further, is_grouped, is_gap, goes_on, is_dropped, Piece, single, begun, further, furthers, gathered}
use Rattle.wt_schema.specs.Sections.{is_section_name, is_mark_pair, all_bared}
use Rattle.wt_checks.specs.Places.{is_body}
use Rattle.wt_checks.specs.PutBack.{is_frame, have_frame}
use Rattle.wt_page_round_trip.specs.OpenedBodies.{all_opened_before}
use Rattle.wt_page_round_trip.proofs.RowKinds.{no_section, section_row, plain_row}
use Rattle.wt_page_round_trip.proofs.Pieces.{IsFrameless}
use Rattle.wt_page_round_trip.proofs.Elements.{kind_as, row_frameless, nodes_frameless}
use Rattle.wt_page_round_trip.proofs.Sections.{stands_alone}
use Rattle.wt_page_round_trip.proofs.Numbers.{same_ok, spot, row_same, nodes_same}
use Rattle.wt_page_round_trip.proofs.Alone.{GoesOnAlone, alone, same_group}
use Rattle.wt_page_round_trip.proofs.Holders.{IsHolder, section_holder}

-- ---- what a result is made of

abbrev pub onto_if : Option Piece → List Piece → List Piece
onto_if None xs = xs
onto_if (Some x) xs = x ∷ xs

pub record IsMadeOf (o : Result (Option Piece) Misfit) (r : Result (List Piece) Misfit) (xs : List Piece) : Type 0 where
  pub first : Option Piece
  pub others : List Piece
  pub first_fits : o ≡ Ok first
  pub others_fit : r ≡ Ok others
  pub all : onto_if first others ≡ xs

pub from_ok : (xs ys : List Piece) → Path (Result (List Piece) Misfit) (Ok xs) (Ok ys) → xs ≡ ys
from_ok xs ys e = cc e

pub made_of : (o : Result (Option Piece) Misfit) (r : Result (List Piece) Misfit) (xs : List Piece) → onto_told o r ≡ Ok xs → IsMadeOf o r xs
made_of (Ok None) (Ok ys) xs e = record { first = None; others = ys; first_fits = refl; others_fit = refl; all = from_ok ys xs e }
made_of (Ok (Some x)) (Ok ys) xs e = record { first = Some x; others = ys; first_fits = refl; others_fit = refl; all = from_ok (x ∷ ys) xs e }
made_of (Ok None) (Err m) xs e = absurd (cc e)
made_of (Ok (Some x)) (Err m) xs e = absurd (cc e)
made_of (Err m) r xs e = absurd (cc e)

pub first_of : (o p : Option Piece) → Path (Result (Option Piece) Misfit) (Ok o) (Ok p) → o ≡ p
first_of o p e = cc e

pub onto_pieces : (q : Option Piece) (ws : List Piece) (r : Result (List Piece) Misfit) → r ≡ Ok ws → onto_told (Ok q) r ≡ Ok (onto_if q ws)
onto_pieces None ws r e = e
onto_pieces (Some x) ws r e = ap (onto x) e

-- ---- what stands behind, and what is opened before it

-- these fit to these pieces from whichever number, behind a block or not, and whatever group is open
pub record Fits (rest : Markups) (zs : List Piece) : Type 0 where
  anywhere : (m : ℕ) (behind : Bool) (g : Option (List ℕ)) → fit_nodes m (spot kind.Body false behind g) rest ≡ Ok zs
  goes : (g : Option (List ℕ)) → goes_on g rest ≡ false
  begins : furthers zs ≡ no_trees
  pub blank : are_blank rest ≡ true

-- these, in which sections are opened before others, fit in this group to the pieces with the sections opened
pub record Opens (bare wide : Markups) (g : Option (List ℕ)) (xs zs : List Piece) : Type 0 where
  pub pieces : List Piece
  pub fits : (m : ℕ) (behind : Bool) → fit_nodes m (spot kind.Body false behind g) wide ≡ Ok pieces
  goes : (h : Option (List ℕ)) → goes_on h wide ≡ goes_on h bare
  pub same : gathered pieces ≡ trees_opened_before (gathered xs) (gathered zs)
  further_ones : furthers pieces ≡ furthers xs
  pub blank : are_blank wide ≡ true

-- where no group is open they fit whatever group is open
fits_by : (bare wide : Markups) (xs zs : List Piece) (o : Opens bare wide None xs zs) → Fits wide o.pieces
fits_by bare wide xs zs o =
    let front : GoesOnAlone wide o.pieces =
    subst (λ (r : Result (List Piece) Misfit). IfOk r (GoesOnAlone wide)) (o.fits 0 false) (alone wide 0 kind.Body false false) in
    record {
      anywhere = λ m behind g. same_ok (fit_nodes m (spot kind.Body false behind None) wide) (fit_nodes m (spot kind.Body false behind g) wide) o.pieces
          (same_group wide m kind.Body false behind g) (o.fits m behind);
      goes = front.1;
      begins = front.0;
      blank = o.blank;
    }

-- ---- a text before these

text_opens : (bs : List ℕ) (ts us : Markups) (n : ℕ) (p : Kind) (behind : Bool) (g : Option (List ℕ)) (xs zs : List Piece) (d : Bool)
    → IsHolder p → is_dropped g bs ts ≡ d → is_blank bs ≡ true
    → onto_told (Ok (if d then None else option_map single (leaf_in p bs))) (fit_nodes (n + 0) (spot p false (behind || false) (if d then g else None)) ts) ≡ Ok xs
    → ((h : Option (List ℕ)) (ys : List Piece) → fit_nodes (n + 0) (spot p false (behind || false) h) ts ≡ Ok ys → Opens ts us h ys zs)
    → Opens (more (text bs) ts) (more (text bs) us) g xs zs
text_opens bs ts us n p behind g xs zs true holder dropped blank e again =
    let o = again g xs e in
    record {
      pieces = o.pieces;
      fits = λ m later. ap (λ (b : Bool). onto_told (Ok (if b then None else option_map single (leaf_in kind.Body bs)))
          (fit_nodes (m + 0) (spot kind.Body false (later || false) (if b then g else None)) us)) (ap (λ b. is_gap bs && b) (o.goes g) ∙ dropped)
          ∙ ap (onto_told (Ok None)) (o.fits (m + 0) (later || false));
      goes = λ h. ap (λ b. is_gap bs && b) (o.goes h);
      same = o.same;
      further_ones = o.further_ones;
      blank = ap (λ b. b && are_blank us) blank ∙ o.blank;
    }
text_opens bs ts us n p behind g xs zs false holder dropped blank e again =
    let r = fit_nodes (n + 0) (spot p false (behind || false) None) ts in
    let leaf = sep_leaf None bs in
    let parts = made_of (Ok (Some (single leaf))) r xs (sym (ap (λ o. onto_told (Ok (option_map single o)) r) (holder.leaf bs)) ∙ e) in
    by_parts parts
  where
    by_first : (first : Option Piece) (others : List Piece) → Path (Result (Option Piece) Misfit) (Ok (Some (single (sep_leaf None bs)))) (Ok first)
        → onto_if first others ≡ xs → single (sep_leaf None bs) ∷ others ≡ xs
    by_first first others f all = subst (λ (q : Option Piece). onto_if q others ≡ xs) (sym (first_of (Some (single (sep_leaf None bs))) first f)) all

    by_parts : IsMadeOf (Ok (Some (single (sep_leaf None bs)))) (fit_nodes (n + 0) (spot p false (behind || false) None) ts) xs
        → Opens (more (text bs) ts) (more (text bs) us) g xs zs
    by_parts parts =
        let o = again None parts.others parts.others_fit in
        let leaf = sep_leaf None bs in
        let all : single leaf ∷ parts.others ≡ xs = by_first parts.first parts.others parts.first_fits parts.all in
        subst (λ (v : List Piece). Opens (more (text bs) ts) (more (text bs) us) g v zs) all
        (record {
          pieces = single leaf ∷ o.pieces;
          fits = λ m later. ap (λ (b : Bool). onto_told (Ok (if b then None else option_map single (leaf_in kind.Body bs)))
              (fit_nodes (m + 0) (spot kind.Body false (later || false) (if b then g else None)) us)) (ap (λ b. is_gap bs && b) (o.goes g) ∙ dropped)
              ∙ ap (onto_told (Ok (Some (single leaf)))) (o.fits (m + 0) (later || false));
          goes = λ h. ap (λ b. is_gap bs && b) (o.goes h);
          same = ap (one_more leaf) o.same;
          further_ones = refl;
          blank = ap (λ b. b && are_blank us) blank ∙ o.blank;
        })

-- ---- an element that is no section, before these

abbrev IsPlain : Option Piece → Type 0
IsPlain o = IfSome o (IsFrameless false)

pub not_section : (t : Tree) (rest : Trees) → have_frame (one_more t no_trees) ≡ false → tree_opened_before t rest ≡ one_more t rest
not_section (tree l us) rest e =
    let here = or_parts (is_frame l.kind || have_frame us) false e in
    let frame = or_parts (is_frame l.kind) (have_frame us) here.0 in
    let section = or_parts (is_body l.kind) (is_section l.kind) frame.0 in
    ap (λ b. if b then trees_opened_before us rest else one_more (tree l us) rest) section.1

plain_gathered : (q : Option Piece) (xs ws zs : List Piece) → IsPlain q → gathered ws ≡ trees_opened_before (gathered xs) (gathered zs)
    → furthers ws ≡ furthers xs → gathered (onto_if q ws) ≡ trees_opened_before (gathered (onto_if q xs)) (gathered zs)
plain_gathered None xs ws zs h e f = e
plain_gathered (Some (single t)) xs ws zs h e f =
    ap (one_more t) e ∙ sym (not_section t (trees_opened_before (gathered xs) (gathered zs)) h)
plain_gathered (Some (begun l t)) xs ws zs h e f =
    let frame = or_parts (is_body l.kind) (is_section l.kind) h.0 in
    let rest = trees_opened_before (gathered xs) (gathered zs) in
    ap (λ v. one_more (tree l (one_more t v)) (gathered ws)) f ∙ ap (one_more (tree l (one_more t (furthers xs)))) e
    ∙ sym (ap (λ b. if b then trees_opened_before (one_more t (furthers xs)) rest else one_more (tree l (one_more t (furthers xs))) rest) frame.1)
plain_gathered (Some (further t)) xs ws zs h e f = e

plain_furthers : (q : Option Piece) (xs ws : List Piece) → furthers ws ≡ furthers xs → furthers (onto_if q ws) ≡ furthers (onto_if q xs)
plain_furthers None xs ws e = e
plain_furthers (Some (single t)) xs ws e = refl
plain_furthers (Some (begun l t)) xs ws e = refl
plain_furthers (Some (further t)) xs ws e = ap (one_more t) e

plain_opens : (name : List ℕ) (ps : List Pair) (c ts us : Markups) (n : ℕ) (p : Kind) (behind : Bool) (g : Option (List ℕ)) (xs zs : List Piece)
    → IsHolder p → is_section_name name ≡ false → fit_nodes n (spot p false behind g) (more (node name ps c) ts) ≡ Ok xs
    → ((m : ℕ) (later : Bool) (h : Option (List ℕ)) (ys : List Piece) → fit_nodes m (spot p false later h) ts ≡ Ok ys → Opens ts us h ys zs)
    → Opens (more (node name ps c) ts) (more (node name ps c) us) g xs zs
plain_opens name ps c ts us n p behind g xs zs holder other e again = by_parts (made_of (fit_here n behind) (fit_nodes after (spot p false (behind || block) open_behind) ts) xs e)
  where
    w : Standing
    w = standing g ps

    j : Option Kind
    j = row_as w name ps

    held : ℕ → Kind → Result (List Piece) Misfit
    held m = λ k. fit_nodes (suc m) (within k (false || is_grouped w)) c

    fit_here : ℕ → Bool → Result (Option Piece) Misfit
    fit_here m later = fit_row m (spot p false later g) w j ps c (held m)

    block : Bool
    block = is_block_row j

    open_behind : Option (List ℕ)
    open_behind = open_by w g (value_of (codes "about") ps)

    after : ℕ
    after = n + suc (elements_of_all c)

    plain : IfOk (fit_here n behind) IsPlain
    plain = row_frameless false j n (spot p false behind g) w ps c (held n) (plain_row name _ other) (λ k h. nodes_frameless c (suc n) (within k (false || is_grouped w)) (no_section k h))

    fits_there : (m : ℕ) (later : Bool) (q : Option Piece) → fit_here n behind ≡ Ok q → fit_row m (spot kind.Body false later g) w j ps c (held m) ≡ Ok q
    fits_there m later q f =
        same_ok (fit_here n behind) (fit_row m (spot kind.Body false later g) w j ps c (held m)) q
        (row_same n m p kind.Body false behind later g g w j ps c (held n) (held m) (λ k h. holder.place behind later w k c h)
        (λ k. nodes_same c (suc n) (suc m) (within k (false || is_grouped w)))) f

    by_parts : IsMadeOf (fit_here n behind) (fit_nodes after (spot p false (behind || block) open_behind) ts) xs
        → Opens (more (node name ps c) ts) (more (node name ps c) us) g xs zs
    by_parts parts =
        let o = again after (behind || block) open_behind parts.others parts.others_fit in
        subst (λ (v : List Piece). Opens (more (node name ps c) ts) (more (node name ps c) us) g v zs) parts.all
        (record {
          pieces = onto_if parts.first o.pieces;
          fits = λ m later. ap (λ (q : Result (Option Piece) Misfit). onto_told q
              (fit_nodes (m + suc (elements_of_all c)) (spot kind.Body false (later || block) open_behind) us)) (fits_there m later parts.first parts.first_fits)
              ∙ onto_pieces parts.first o.pieces _ (o.fits (m + suc (elements_of_all c)) (later || block));
          goes = λ h. refl;
          same = plain_gathered parts.first parts.others o.pieces zs (subst (λ (q : Result (Option Piece) Misfit). IfOk q IsPlain) parts.first_fits plain) o.same o.further_ones;
          further_ones = plain_furthers parts.first parts.others o.pieces o.further_ones;
          blank = o.blank;
        })

-- ---- a section before these

-- what a section that fits is made of
pub record IsSectionOf (q : Option Piece) (held : Result (List Piece) Misfit) (c : Markups) : Type 0 where
  own : Label
  inner : List Piece
  is : is_section own.kind ≡ true
  held_fits : held ≡ Ok inner
  piece : Some (single (tree own (gathered inner))) ≡ q
  pub blank : are_blank c ≡ true

section_told : (n : ℕ) (ps : List Pair) (o : Option Data) (c : Markups) (held : Result (List Piece) Misfit) (q : Option Piece)
    → fit_told n false stands.Alone (kind.Section 0) ps o c held ≡ Ok q → IsSectionOf q held c
section_told n ps None c held q e = absurd (cc e)
section_told n ps (Some d) c held q e = by_test (are_blank c) refl e
  where
    l : Label
    l = label_as stands.Alone (kind.Section 0) ps d (texts_in c)

    by_held : (r : Result (List Piece) Misfit) → are_blank c ≡ true
        → one_piece stands.Alone ps d (with_children false (kind.Section 0) l r) ≡ Ok q → IsSectionOf q r c
    by_held (Ok ys) f h = record {
      own = l;
      inner = ys;
      is = ap is_section (kind_as stands.Alone (kind.Section 0) ps d (texts_in c));
      held_fits = refl;
      piece = first_of (Some (single (tree l (gathered ys)))) q h;
      blank = f;
    }
    by_held (Err m) f h = absurd (cc h)

    by_test : (b : Bool) → are_blank c ≡ b
        → Path (Result (Option Piece) Misfit) (if b then one_piece stands.Alone ps d (with_children false (kind.Section 0) l held) else Err (n, why.Text)) (Ok q)
        → IsSectionOf q held c
    by_test true f h = by_held held f h
    by_test false f h = absurd (cc h)

section_fits : (n : ℕ) (p : Kind) (behind : Bool) (g : Option (List ℕ)) (ps : List Pair) (c : Markups) (held : Kind → Result (List Piece) Misfit)
    (q : Option Piece) → fit_row n (spot p false behind g) stands.Alone (Some (kind.Section 0)) ps c held ≡ Ok q → IsSectionOf q (held (kind.Section 0)) c
section_fits n p behind g ps c held q e = by_test (fits_place p behind stands.Alone (kind.Section 0) c) e
  where
    by_test : (b : Bool)
        → Path (Result (Option Piece) Misfit) (if b then fit_as n (spot p false behind g) stands.Alone (kind.Section 0) ps c (held (kind.Section 0)) else Err (n, why.Place)) (Ok q)
        → IsSectionOf q (held (kind.Section 0)) c
    by_test true h = section_told n ps (data_for false stands.Alone (kind.Section 0) ps) c (held (kind.Section 0)) q h
    by_test false h = absurd (cc h)

section_gathered : (l : Label) (inner others ws vs zs : List Piece) → is_section l.kind ≡ true → gathered ws ≡ trees_opened_before (gathered inner) (gathered vs)
    → gathered vs ≡ trees_opened_before (gathered others) (gathered zs)
    → gathered ws ≡ trees_opened_before (gathered (single (tree l (gathered inner)) ∷ others)) (gathered zs)
section_gathered l inner others ws vs zs e f h =
    let rest = trees_opened_before (gathered others) (gathered zs) in
    f ∙ ap (trees_opened_before (gathered inner)) h
    ∙ sym (ap (λ b. if b then trees_opened_before (gathered inner) rest else one_more (tree l (gathered inner)) rest) e)

-- what an element gives with those behind it, by how it stands and by its row
abbrev fit_by : Standing → Option Kind → ℕ → Kind → Bool → Option (List ℕ) → Option (List ℕ) → List Pair → Markups → Markups → Result (List Piece) Misfit
fit_by w j n p behind g about ps c ts =
    onto_told (fit_row n (spot p false behind g) w j ps c (λ k. fit_nodes (suc n) (within k (false || is_grouped w)) c))
    (fit_nodes (n + suc (elements_of_all c)) (spot p false (behind || is_block_row j) (open_by w g about)) ts)

section_opens : (name : List ℕ) (raw : List Pair) (c ts us wide : Markups) (n : ℕ) (p : Kind) (behind : Bool) (g : Option (List ℕ)) (xs zs : List Piece)
    → is_section_name name ≡ true → fit_nodes n (spot p false behind g) (more (node name (filter is_mark_pair raw) c) ts) ≡ Ok xs
    → ((m : ℕ) (later : Bool) (ys : List Piece) → fit_nodes m (spot p false later None) ts ≡ Ok ys → Opens ts us None ys zs)
    → ((ys vs : List Piece) → are_blank c ≡ true → Fits us vs → fit_nodes (suc n) (within (kind.Section 0) false) c ≡ Ok ys → Opens c wide None ys vs)
    → Opens (more (node name (filter is_mark_pair raw) c) ts) wide g xs zs
section_opens name raw c ts us wide n p behind g xs zs e fit again inside =
    by_parts (made_of (fit_row n (spot p false behind g) stands.Alone (Some (kind.Section 0)) ps c held) (fit_nodes after (spot p false (behind || false) None) ts) xs rewritten)
  where
    ps : List Pair
    ps = filter is_mark_pair raw

    about : Option (List ℕ)
    about = value_of (codes "about") ps

    held : Kind → Result (List Piece) Misfit
    held = λ k. fit_nodes (suc n) (within k false) c

    after : ℕ
    after = n + suc (elements_of_all c)

    by_standing : fit_by stands.Alone (row_as stands.Alone name ps) n p behind g about ps c ts ≡ Ok xs
    by_standing = subst (λ (v : Standing). fit_by v (row_as v name ps) n p behind g about ps c ts ≡ Ok xs) (stands_alone g raw) fit

    rewritten : fit_by stands.Alone (Some (kind.Section 0)) n p behind g about ps c ts ≡ Ok xs
    rewritten = subst (λ (j : Option Kind). fit_by stands.Alone j n p behind g about ps c ts ≡ Ok xs) (section_row name ps e) by_standing

    by_section : (first : Option Piece) (others : List Piece) → onto_if first others ≡ xs → fit_nodes after (spot p false (behind || false) None) ts ≡ Ok others
        → IsSectionOf first (held (kind.Section 0)) c → Opens (more (node name ps c) ts) wide g xs zs
    by_section first others all others_fit s =
        let o = again after (behind || false) others others_fit in
        let i = inside s.inner o.pieces s.blank (fits_by ts us others zs o) s.held_fits in
        let wider : Fits wide i.pieces = fits_by c wide s.inner o.pieces i in
        let made : single (tree s.own (gathered s.inner)) ∷ others ≡ xs = subst (λ (v : Option Piece). onto_if v others ≡ xs) (sym s.piece) all in
        subst (λ (v : List Piece). Opens (more (node name ps c) ts) wide g v zs) made
        (record {
          pieces = i.pieces;
          fits = λ m later. wider.anywhere m later g;
          goes = λ h. wider.goes h ∙ sym (ap is_further (stands_alone h raw));
          same = section_gathered s.own s.inner others i.pieces o.pieces zs s.is i.same o.same;
          further_ones = wider.begins;
          blank = i.blank;
        })

    by_parts : IsMadeOf (fit_row n (spot p false behind g) stands.Alone (Some (kind.Section 0)) ps c held) (fit_nodes after (spot p false (behind || false) None) ts) xs
        → Opens (more (node name ps c) ts) wide g xs zs
    by_parts parts =
        by_section parts.first parts.others parts.all parts.others_fit (section_fits n p behind g ps c held parts.first parts.first_fits)

-- ---- all that stands in a body or a section

end_opens : (rest : Markups) (g : Option (List ℕ)) (zs : List Piece) → Fits rest zs → Opens empty rest g [] zs
end_opens rest g zs f = record {
  pieces = zs;
  fits = λ m later. f.anywhere m later g;
  goes = f.goes;
  same = refl;
  further_ones = f.begins;
  blank = f.blank;
}

pub opens : (c rest : Markups) (n : ℕ) (p : Kind) (behind : Bool) (g : Option (List ℕ)) (xs zs : List Piece) → IsHolder p → Fits rest zs
    → are_blank (all_bared c) ≡ true → fit_nodes n (spot p false behind g) (all_bared c) ≡ Ok xs → Opens (all_bared c) (all_opened_before c rest) g xs zs
opens empty rest n p behind g xs zs holder f blank e =
    subst (λ (v : List Piece). Opens empty rest g v zs) (from_ok [] xs e) (end_opens rest g zs f)
opens (more (text bs) ts) rest n p behind g xs zs holder f blank e =
    let here = and_parts (is_blank bs) (are_blank (all_bared ts)) blank in
    text_opens bs (all_bared ts) (all_opened_before ts rest) n p behind g xs zs (is_dropped g bs (all_bared ts)) holder refl here.0 e
    (λ h ys k. opens ts rest (n + 0) p (behind || false) h ys zs holder f here.1 k)
opens (more (node name ps c) ts) rest n p behind g xs zs holder f blank e =
    by_name (is_section_name name) refl blank e (λ m later h ys k b. opens ts rest m p later h ys zs holder f b k)
    (λ ys vs k b h. opens c (all_opened_before ts rest) (suc n) (kind.Section 0) false None ys vs section_holder k b h)
  where
    wide : Markups
    wide = all_opened_before ts rest

    by_name : (b : Bool) → is_section_name name ≡ b
        → are_blank (more (if b then node name (filter is_mark_pair ps) (all_bared c) else node name ps c) (all_bared ts)) ≡ true
        → fit_nodes n (spot p false behind g) (more (if b then node name (filter is_mark_pair ps) (all_bared c) else node name ps c) (all_bared ts)) ≡ Ok xs
        → ((m : ℕ) (later : Bool) (h : Option (List ℕ)) (ys : List Piece) → fit_nodes m (spot p false later h) (all_bared ts) ≡ Ok ys → are_blank (all_bared ts) ≡ true
        → Opens (all_bared ts) wide h ys zs)
        → ((ys vs : List Piece) → Fits wide vs → are_blank (all_bared c) ≡ true → fit_nodes (suc n) (within (kind.Section 0) false) (all_bared c) ≡ Ok ys
        → Opens (all_bared c) (all_opened_before c wide) None ys vs)
        → Opens (more (if b then node name (filter is_mark_pair ps) (all_bared c) else node name ps c) (all_bared ts))
        (if b then all_opened_before c wide else more (node name ps c) wide) g xs zs
    by_name true e blank h again inside =
        section_opens name ps (all_bared c) (all_bared ts) wide (all_opened_before c wide) n p behind g xs zs e h (λ m later ys k. again m later None ys k blank)
        (λ ys vs b k u. inside ys vs k b u)
    by_name false e blank h again inside = plain_opens name ps c (all_bared ts) wide n p behind g xs zs holder e h (λ m later u ys k. again m later u ys k blank)

-- at the end of a body
pub nothing_fits : Fits empty []
nothing_fits = record { anywhere = λ m behind g. refl; goes = λ g. refl; begins = refl; blank = refl }
