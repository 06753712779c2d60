-- A content is written with as many line breaks as it shows.
use Rattle.std.proofs.Common.{arith, ◌≡◌, ℕ, suc, ◌+◌, ◌==◌, Bool, true, false, List, [], ◌∷◌, ◌++◌, refl, ap, ◌∙◌, append-nil, Option, Some, None}
use Rattle.std.specs.Prelude.{if◌then◌else◌}
use Rattle.std.specs.List.{flat_map}
use Rattle.std.specs.Str.{IsUtf8}
use Rattle.std.proofs.lemmas.Grind.{flat_map-append}
use Rattle.wt_span.specs.Bytes.{is_blank}
use Rattle.wt_names.specs.declared.namespace.Ns.{Ns}
use Rattle.wt_names.specs.declared.namespace.Ns.TheVariants as ns
use Rattle.wt_names.specs.declared.title.Title.{Title}
use Rattle.wt_names.specs.Namespace.{full_name_of}
use Rattle.wt_names.specs.Tidy.{text_of}
use Rattle.wt_names.specs.Written.{read_link}
use Rattle.wt_tree.specs.Tree.{Label, Tree, tree, Trees, none, more, label}
use Rattle.wt_tree.specs.Source.{flat}
use Rattle.wt_guards.specs.declared.role.Role.{Role}
use Rattle.wt_guards.specs.declared.role.Role.TheVariants as role
use Rattle.wt_tree.specs.declared.edit_shape.Place.{Place}
use Rattle.wt_guards.specs.Content.{ContentSign, letters}
use Rattle.wt_guards.specs.Guards.{nowiki, nowiki_if}
use Rattle.wt_guards.specs.WrittenLaws.{itself, breaks}
use Rattle.wt_guards.proofs.Breaks.{same_breaks}
use Rattle.wt_tree.specs.declared.edit_shape.InlineForm.{InlineForm}
use Rattle.wt_tree.specs.declared.edit_shape.InlineForm.TheVariants as inline
use Rattle.wt_tree.specs.EditShapes.{edit_shape}
use Rattle.wt_original.specs.Kept.{Kept, kept_with, shown}
use Rattle.wt_original.specs.Page.{Page, page_of, is_unchanged}
use Rattle.wt_link_spelling.specs.Spelling.{kept_thing, new_thing, as_it_stood, unless_kept, closing_place, toggle, or_nowiki, style, spelled_within, href_of, only_text, is_text, colon, link_text, page_link, after_space, external_link, tag_pair, break_tag, signs_by, signs_of, signs_of_all, children_of, inline_spelling}
use Rattle.wt_escape.specs.LineBreaks.{breaks_as_it_stood, breaks_unless_kept, breaks_of_link_text, breaks_of_link, breaks_of_tag, breaks_by, breaks_in, breaks_in_all, IsTextBy, HasTexts, HaveTexts}
use Rattle.wt_escape.proofs.SpelledBack.{written_text}

one_more : (t : Bool) (m n k : ℕ) → m ≡ n + k → (if t then suc m else m) ≡ (if t then suc n else n) + k
one_more true m n k e = omega (arith, e)
one_more false m n k e = e

breaks_joined : (xs ys : List ℕ) → breaks (xs ++ ys) ≡ breaks xs + breaks ys
breaks_joined [] ys = omega arith
breaks_joined (b ∷ xs) ys = one_more (b == 10) (breaks (xs ++ ys)) (breaks xs) (breaks ys) (breaks_joined xs ys)

-- what signs show as they stand
abbrev counted : List ContentSign → ℕ
counted signs = breaks (flat_map itself signs)

counted_append : (xs ys : List ContentSign) → counted (xs ++ ys) ≡ counted xs + counted ys
counted_append xs ys = ap breaks (flat_map-append itself xs ys) ∙ breaks_joined (flat_map itself xs) (flat_map itself ys)

counted_text : (text : List ℕ) → IsUtf8 text → counted (letters text) ≡ breaks text
counted_text text u = ap breaks (written_text text u)

counted_within : (p : Page) (pl : Place) (inside : List ContentSign) → breaks (spelled_within p pl inside) ≡ counted inside
counted_within p pl inside = same_breaks (record { within = true; place = pl; source = p.source }) inside

-- ---- one node

counted_kept : (k : Kept) → counted (kept_thing k ∷ []) ≡ breaks (flat k.node)
counted_kept k = ap breaks (append-nil (flat k.node))

counted_new : (r : Role) (source : List ℕ) (k : Option Kept) → counted (new_thing r source k) ≡ breaks source
counted_new r source k = ap breaks (append-nil source)

counted_if : (b : Bool) (k : Kept) (new : List ContentSign) (n : ℕ) → counted new ≡ n
    → counted (if b then kept_thing k ∷ [] else new) ≡ (if b then breaks (flat k.node) else n)
counted_if true k new n e = counted_kept k
counted_if false k new n e = e

counted_unless : (p : Page) (k : Option Kept) (t : Tree) (new : List ContentSign) (n : ℕ) → counted new ≡ n
    → counted (unless_kept p k t new) ≡ breaks_unless_kept p k t n
counted_unless p None t new n e = e
counted_unless p (Some k) t new n e = counted_if (is_unchanged p k t) k new n e

counted_as_it_stood : (k : Option Kept) → counted (as_it_stood k) ≡ breaks_as_it_stood k
counted_as_it_stood None = refl
counted_as_it_stood (Some k) = counted_kept k

-- ---- styles

counted_or_nowiki : (inside : List ContentSign) → counted (or_nowiki inside) ≡ counted inside
unfolding nowiki
counted_or_nowiki [] = refl
counted_or_nowiki (s ∷ ss) = refl

counted_style : (sign : List ℕ) (k : Option Kept) (inside : List ContentSign) → breaks sign ≡ 0 → counted (style sign k inside) ≡ counted inside
counted_style sign k inside e =
    let closed : List ContentSign = toggle sign (closing_place k) ∷ [] in
    let rest : List ContentSign = or_nowiki inside ++ closed in
    let a : breaks (sign ++ flat_map itself rest) ≡ breaks sign + counted rest = breaks_joined sign (flat_map itself rest) in
    let b : counted rest ≡ counted (or_nowiki inside) + counted closed = counted_append (or_nowiki inside) closed in
    let c : counted closed ≡ breaks sign = ap breaks (append-nil sign) in
    let d : counted (or_nowiki inside) ≡ counted inside = counted_or_nowiki inside in
    let sum : breaks sign + counted rest ≡ counted inside = omega (arith, b, c, d, e) in
    a ∙ sum

-- ---- links and tags

colon_breaks : (n : Ns) → breaks (colon n) ≡ 0
colon_breaks ns.Main = refl
colon_breaks ns.Talk = refl
colon_breaks ns.User = refl
colon_breaks ns.UserTalk = refl
colon_breaks ns.Project = refl
colon_breaks ns.ProjectTalk = refl
colon_breaks ns.File = refl
colon_breaks ns.FileTalk = refl
colon_breaks ns.Template = refl
colon_breaks ns.TemplateTalk = refl
colon_breaks ns.Help = refl
colon_breaks ns.HelpTalk = refl
colon_breaks ns.Category = refl
colon_breaks ns.CategoryTalk = refl

link_text_breaks : (b : Bool) (inside : List ℕ) → breaks (link_text b inside) ≡ breaks_of_link_text b (breaks inside)
unfolding nowiki
link_text_breaks true inside = refl
link_text_breaks false [] = refl
link_text_breaks false (b ∷ bs) = refl

link_breaks : (title : Option Title) (ts : Trees) (inside : List ℕ) → breaks (page_link title ts inside) ≡ breaks_of_link title ts (breaks inside)
link_breaks None ts inside = refl
link_breaks (Some t) ts inside =
    let named : Bool = is_text (only_text ts) (full_name_of t) in
    let text : List ℕ = link_text named inside in
    let end : List ℕ = 93 ∷ 93 ∷ [] in
    let a : breaks (colon t.ns ++ (text_of t ++ (text ++ end))) ≡ breaks (colon t.ns) + breaks (text_of t ++ (text ++ end)) =
    breaks_joined (colon t.ns) (text_of t ++ (text ++ end)) in
    let b : breaks (text_of t ++ (text ++ end)) ≡ breaks (text_of t) + breaks (text ++ end) = breaks_joined (text_of t) (text ++ end) in
    let c : breaks (text ++ end) ≡ breaks text + 0 = breaks_joined text end in
    let d : breaks text ≡ breaks_of_link_text named (breaks inside) = link_text_breaks named inside in
    let e : breaks (colon t.ns) ≡ 0 = colon_breaks t.ns in
    let sum : breaks (colon t.ns) + breaks (text_of t ++ (text ++ end)) ≡ breaks (text_of t) + breaks_of_link_text named (breaks inside) =
    omega (arith, b, c, d, e) in
    a ∙ sum

guard_breaks : (g : Bool) → breaks (nowiki_if g) ≡ 0
unfolding nowiki
guard_breaks true = refl
guard_breaks false = refl

no_more : (n : ℕ) → 0 + n ≡ n
no_more n = omega arith

after_space_breaks : (inside : List ℕ) → breaks (after_space inside) ≡ breaks inside
after_space_breaks [] = refl
after_space_breaks (b ∷ bs) =
    breaks_joined (nowiki_if (is_blank b)) (b ∷ bs) ∙ ap (λ (n : ℕ). n + breaks (b ∷ bs)) (guard_breaks (is_blank b)) ∙ no_more (breaks (b ∷ bs))

external_breaks : (url inside : List ℕ) → breaks (external_link url inside) ≡ breaks url + breaks inside
external_breaks url inside =
    let end : List ℕ = 93 ∷ [] in
    let a : breaks (url ++ (after_space inside ++ end)) ≡ breaks url + breaks (after_space inside ++ end) = breaks_joined url (after_space inside ++ end) in
    let b : breaks (after_space inside ++ end) ≡ breaks (after_space inside) + 0 = breaks_joined (after_space inside) end in
    let c : breaks (after_space inside) ≡ breaks inside = after_space_breaks inside in
    let sum : breaks url + breaks (after_space inside ++ end) ≡ breaks url + breaks inside = omega (arith, b, c) in
    a ∙ sum

tag_breaks : (k : Option Kept) (inside : List ℕ) → breaks (tag_pair k inside) ≡ breaks_of_tag k (breaks inside)
tag_breaks None inside = refl
tag_breaks (Some k) inside =
    breaks_joined (label k.node).opening (inside ++ (label k.node).closing)
    ∙ ap (λ (n : ℕ). breaks (label k.node).opening + n) (breaks_joined inside (label k.node).closing)

break_breaks : breaks break_tag ≡ 0
unfolding break_tag
break_breaks = refl

-- ---- all nodes

counted_by : (w : InlineForm) (p : Page) (pl : Place) (k : Option Kept) (l : Label) (ts : Trees) → IsTextBy w l ts
    → counted (signs_of_all p pl ts) ≡ breaks_in_all p ts
    → counted (signs_by w p pl k l ts (signs_of_all p pl ts)) ≡ breaks_by w p k l ts (breaks_in_all p ts)
counted_by inline.Nothing p pl k l ts h e = refl
counted_by inline.Characters p pl k l ts h e = counted_text l.shown h
counted_by inline.Bold p pl k l ts h e = counted_style (39 ∷ 39 ∷ 39 ∷ []) k (signs_of_all p pl ts) refl ∙ e
counted_by inline.Italic p pl k l ts h e = counted_style (39 ∷ 39 ∷ []) k (signs_of_all p pl ts) refl ∙ e
counted_by inline.Shown p pl k l ts h e =
    counted_unless p k (tree l ts) (letters (shown (tree l ts))) (breaks (shown (tree l ts))) (counted_text (shown (tree l ts)) h)
counted_by inline.PageLink p pl k l ts h e =
    let title = read_link (href_of l) in
    let inside = spelled_within p pl (signs_of_all p pl ts) in
    counted_unless p k (tree l ts) (new_thing role.Link (page_link title ts inside) k) (breaks_of_link title ts (breaks_in_all p ts))
    (counted_new role.Link (page_link title ts inside) k ∙ link_breaks title ts inside
    ∙ ap (breaks_of_link title ts) (counted_within p pl (signs_of_all p pl ts) ∙ e))
counted_by inline.ExternalLink p pl k l ts h e =
    let inside = spelled_within p pl (signs_of_all p pl ts) in
    counted_unless p k (tree l ts) (new_thing role.External (external_link (href_of l) inside) k) (breaks (href_of l) + breaks_in_all p ts)
    (counted_new role.External (external_link (href_of l) inside) k ∙ external_breaks (href_of l) inside
    ∙ ap (λ (n : ℕ). breaks (href_of l) + n) (counted_within p pl (signs_of_all p pl ts) ∙ e))
counted_by inline.Tag p pl k l ts h e =
    let inside = spelled_within p pl (signs_of_all p pl ts) in
    counted_unless p k (tree l ts) (new_thing role.Node (tag_pair k inside) k) (breaks_of_tag k (breaks_in_all p ts))
    (counted_new role.Node (tag_pair k inside) k ∙ tag_breaks k inside ∙ ap (breaks_of_tag k) (counted_within p pl (signs_of_all p pl ts) ∙ e))
counted_by inline.Break p pl k l ts h e =
    counted_unless p k (tree l ts) (new_thing role.Node break_tag k) 0 (counted_new role.Node break_tag k ∙ break_breaks)
counted_by inline.AsItStood p pl k l ts h e = counted_as_it_stood k

mutual
  counted_in : (p : Page) (pl : Place) (t : Tree) → HasTexts t → counted (signs_of p pl t) ≡ breaks_in p t
  counted_in p pl (tree l ts) h = counted_by (edit_shape l.kind).inline p pl (kept_with l.id p.kept) l ts h.0 (counted_all p pl ts h.1)

  counted_all : (p : Page) (pl : Place) (ts : Trees) → HaveTexts ts → counted (signs_of_all p pl ts) ≡ breaks_in_all p ts
  counted_all p pl none h = refl
  counted_all p pl (more t ts) h =
      counted_append (signs_of p pl t) (signs_of_all p pl ts) ∙ ap (λ (n : ℕ). n + counted (signs_of_all p pl ts)) (counted_in p pl t h.0)
      ∙ ap (λ (n : ℕ). breaks_in p t + n) (counted_all p pl ts h.1)

pub breaks_shown : (same : Tree → Tree → Bool) (old new : Tree) (pl : Place) → HaveTexts (children_of new)
    → breaks (inline_spelling same old new pl) ≡ breaks_in_all (page_of same old) (children_of new)
unfolding inline_spelling
breaks_shown same old new pl h =
    let p = page_of same old in
    same_breaks (record { within = false; place = pl; source = p.source }) (signs_of_all p pl (children_of new)) ∙ counted_all p pl (children_of new) h
