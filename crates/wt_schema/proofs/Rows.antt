-- The elements that are written: what the row of each kind tells, and that it is read as its kind.
use Rattle.std.proofs.Common.{◌≡◌, ℕ, zero, suc, ◌<◌, inl, inr, Bool, true, false, nat_le, Option, Some, None, List, [], ◌∷◌, ◌++◌, refl, sym, ap, ◌∙◌, subst, arith, codes}
use Rattle.std.specs.Prelude.{◌&&◌, ◌||◌, if◌then◌else◌}
use Rattle.std.specs.Fmt.{digits}
use Rattle.std.specs.Str.{bytes_eq}
use Rattle.std.proofs.lemmas.Bool.Decides.{nat_tests}
use Rattle.json.proofs.Printed.Utf8.{IsUtf8-are_ascii}
use Rattle.wt_tree.specs.declared.kind.AttrName.{AttrName}
use Rattle.wt_tree.specs.declared.kind.AttrName.TheVariants as attr
use Rattle.wt_tree.specs.declared.kind.Kind.{Kind}
use Rattle.wt_tree.specs.declared.kind.Kind.TheVariants as kind
use Rattle.wt_span.specs.declared.tag_name.TagName.{TagName}
use Rattle.wt_span.specs.declared.tag_name.TagName.TheVariants as tag
use Rattle.wt_tree.specs.declared.kind.Ranges.{Ranges}
use Rattle.wt_tree.specs.declared.row.Placement.{Placement}
use Rattle.wt_tree.specs.declared.row.Placement.TheVariants.{Nowhere, Section}
use Rattle.wt_tree.specs.declared.row.Holding.{Holding}
use Rattle.wt_tree.specs.declared.row.Holding.TheVariants as holding
use Rattle.wt_tree.specs.declared.row.Writing.{Writing}
use Rattle.wt_tree.specs.declared.row.Writing.TheVariants.{AsVoid, RoundCharacter}
use Rattle.wt_tree.specs.Kinds.{shape, writing, is_numbered, is_section, is_class, is_anywhere, admits, may_hold, spelling, tag_name, element_name, fixed_attributes}
use Rattle.wt_tree.specs.Values.{placeholder, extension_prefix, is_island_type, no_include, no_include_end, only_include, only_include_end, include_only, is_include_type, switch_prefix, is_switch_name}
use Rattle.wt_tree.specs.Tree.{Label}
use Rattle.wt_html_grammar.specs.Signs.{is_void, IsName}
use Rattle.wt_schema.specs.Rows.{row_by, shows_text}
use Rattle.wt_schema.specs.Written.{ranges_read, has_level, HasAttributes, value_at, IsElementLabel}
use Rattle.wt_schema.proofs.Order.{rises, names_of, names_in, AllUtf8, value_front, own_before}
use Rattle.wt_schema.proofs.Types.{other_text}

abbrev pub is_as_void : Writing → Bool
is_as_void AsVoid = true
is_as_void w = false

abbrev pub is_round_character : Writing → Bool
is_round_character RoundCharacter = true
is_round_character w = false

-- the kind of an element with these attributes beside its number and its data
abbrev row_of : Kind → List (AttrName × List ℕ) → Option Kind
row_of k xs = row_by (element_name k) (value_at 1 xs) (value_at 2 xs) (value_at 3 xs)

-- an element of this kind with these attributes of its own: its name, how it is written, that its
-- attributes stand in their order, and that it is read as its kind
pub record IsElementKind (k : Kind) (xs : List (AttrName × List ℕ)) : Type 0 where
  pub name : IsName (element_name k)
  pub whole : is_void (element_name k) ≡ is_as_void (writing k)
  pub placed : (r : Option Ranges) → ranges_read (writing k) r ≡ r
  pub shows : shows_text k ≡ is_round_character (writing k)
  pub rises : rises 1 (names_in (fixed_attributes k) ++ names_of (spelling k).own) ≡ true
  pub characters : AllUtf8 (fixed_attributes k)
  pub row : is_numbered k ≡ true → row_of k (fixed_attributes k ++ xs) ≡ Some k

-- none of the node's own tells the kind
plain_row : (k : Kind) (xs : List (AttrName × List ℕ)) → rises 4 (names_of (spelling k).own) ≡ true → HasAttributes k xs
    → row_of k (fixed_attributes k) ≡ Some k → row_of k (fixed_attributes k ++ xs) ≡ Some k
plain_row k xs q h e =
    let fs : List (AttrName × List ℕ) = fixed_attributes k in
    let f : (n : ℕ) → n < 4 → value_at n (fs ++ xs) ≡ value_at n fs = λ n l. value_front n fs xs (own_before (spelling k).own xs 4 n l q h) in
    ap (λ o. row_by (element_name k) o (value_at 2 (fs ++ xs)) (value_at 3 (fs ++ xs))) (f 1 (omega arith))
    ∙ ap (λ o. row_by (element_name k) (value_at 1 fs) o (value_at 3 (fs ++ xs))) (f 2 (omega arith))
    ∙ ap (row_by (element_name k) (value_at 1 fs) (value_at 2 fs)) (f 3 (omega arith))
    ∙ e

para_kind : (xs : List (AttrName × List ℕ)) → HasAttributes kind.Para xs → IsElementKind kind.Para xs
unfolding spelling placeholder extension_prefix no_include no_include_end only_include only_include_end include_only switch_prefix tag_name digits
para_kind xs h =
    record { name = (refl, tt); whole = refl; placed = λ r. refl; shows = refl; rises = refl; characters = tt; row = λ n. plain_row kind.Para xs refl h refl }

rule_kind : (xs : List (AttrName × List ℕ)) → HasAttributes kind.Rule xs → IsElementKind kind.Rule xs
unfolding spelling placeholder extension_prefix no_include no_include_end only_include only_include_end include_only switch_prefix tag_name digits
rule_kind xs h =
    record {
      name = (refl, (refl, tt));
      whole = refl;
      placed = λ r. refl;
      shows = refl;
      rises = refl;
      characters = tt;
      row =
          λ n. plain_row kind.Rule xs refl h refl;
    }

pre_kind : (xs : List (AttrName × List ℕ)) → HasAttributes kind.Pre xs → IsElementKind kind.Pre xs
unfolding spelling placeholder extension_prefix no_include no_include_end only_include only_include_end include_only switch_prefix tag_name digits
pre_kind xs h =
    record {
      name = (refl, (refl, (refl, tt)));
      whole = refl;
      placed = λ r. refl;
      shows = refl;
      rises = refl;
      characters =
          tt;
      row = λ n. plain_row kind.Pre xs refl h refl;
    }

bold_kind : (xs : List (AttrName × List ℕ)) → HasAttributes kind.Bold xs → IsElementKind kind.Bold xs
unfolding spelling placeholder extension_prefix no_include no_include_end only_include only_include_end include_only switch_prefix tag_name digits
bold_kind xs h =
    record { name = (refl, tt); whole = refl; placed = λ r. refl; shows = refl; rises = refl; characters = tt; row = λ n. plain_row kind.Bold xs refl h refl }

italic_kind : (xs : List (AttrName × List ℕ)) → HasAttributes kind.Italic xs → IsElementKind kind.Italic xs
unfolding spelling placeholder extension_prefix no_include no_include_end only_include only_include_end include_only switch_prefix tag_name digits
italic_kind xs h =
    record { name = (refl, tt); whole = refl; placed = λ r. refl; shows = refl; rises = refl; characters = tt; row = λ n. plain_row kind.Italic xs refl h refl }

wikilink_kind : (xs : List (AttrName × List ℕ)) → HasAttributes kind.WikiLink xs → IsElementKind kind.WikiLink xs
unfolding spelling placeholder extension_prefix no_include no_include_end only_include only_include_end include_only switch_prefix tag_name digits
wikilink_kind xs h =
    record {
      name = (refl, tt);
      whole = refl;
      placed = λ r. refl;
      shows = refl;
      rises = refl;
      characters =
          (IsUtf8-are_ascii (codes "mw:WikiLink") refl, tt);
      row = λ n. plain_row kind.WikiLink xs refl h refl;
    }

extlink_kind : (xs : List (AttrName × List ℕ)) → HasAttributes kind.ExtLink xs → IsElementKind kind.ExtLink xs
unfolding spelling placeholder extension_prefix no_include no_include_end only_include only_include_end include_only switch_prefix tag_name digits
extlink_kind xs h =
    record {
      name = (refl, tt);
      whole = refl;
      placed = λ r. refl;
      shows = refl;
      rises = refl;
      characters =
          (IsUtf8-are_ascii (codes "mw:ExtLink") refl, tt);
      row = λ n. plain_row kind.ExtLink xs refl h refl;
    }

category_kind : (xs : List (AttrName × List ℕ)) → HasAttributes kind.Category xs → IsElementKind kind.Category xs
unfolding spelling placeholder extension_prefix no_include no_include_end only_include only_include_end include_only switch_prefix tag_name digits
category_kind xs h =
    record {
      name = (refl, (refl, (refl, (refl, tt))));
      whole = refl;
      placed = λ r. refl;
      shows = refl;
      rises = refl;
      characters =
          (IsUtf8-are_ascii (codes "mw:PageProp/Category") refl, tt);
      row = λ n. plain_row kind.Category xs refl h refl;
    }

br_kind : (xs : List (AttrName × List ℕ)) → HasAttributes kind.Br xs → IsElementKind kind.Br xs
unfolding spelling placeholder extension_prefix no_include no_include_end only_include only_include_end include_only switch_prefix tag_name digits
br_kind xs h =
    record {
      name = (refl, (refl, tt));
      whole = refl;
      placed = λ r. refl;
      shows = refl;
      rises = refl;
      characters = tt;
      row =
          λ n. plain_row kind.Br xs refl h refl;
    }

entity_kind : (xs : List (AttrName × List ℕ)) → HasAttributes kind.Entity xs → IsElementKind kind.Entity xs
unfolding spelling placeholder extension_prefix no_include no_include_end only_include only_include_end include_only switch_prefix tag_name digits
entity_kind xs h =
    record {
      name = (refl, (refl, (refl, (refl, tt))));
      whole = refl;
      placed = λ r. refl;
      shows = refl;
      rises = refl;
      characters =
          (IsUtf8-are_ascii (codes "mw:Entity") refl, tt);
      row = λ n. plain_row kind.Entity xs refl h refl;
    }

nowiki_kind : (xs : List (AttrName × List ℕ)) → HasAttributes kind.Nowiki xs → IsElementKind kind.Nowiki xs
unfolding spelling placeholder extension_prefix no_include no_include_end only_include only_include_end include_only switch_prefix tag_name digits
nowiki_kind xs h =
    record {
      name = (refl, (refl, (refl, (refl, tt))));
      whole = refl;
      placed = λ r. refl;
      shows = refl;
      rises = refl;
      characters =
          (IsUtf8-are_ascii (codes "mw:Nowiki") refl, tt);
      row = λ n. plain_row kind.Nowiki xs refl h refl;
    }

comment_kind : (xs : List (AttrName × List ℕ)) → HasAttributes kind.Comment xs → IsElementKind kind.Comment xs
unfolding spelling placeholder extension_prefix no_include no_include_end only_include only_include_end include_only switch_prefix tag_name digits
comment_kind xs h =
    record {
      name = (refl, (refl, (refl, (refl, tt))));
      whole = refl;
      placed = λ r. refl;
      shows = refl;
      rises = refl;
      characters =
          (IsUtf8-are_ascii (codes "mw:Comment") refl, tt);
      row = λ n. plain_row kind.Comment xs refl h refl;
    }

skip_kind : (xs : List (AttrName × List ℕ)) → HasAttributes kind.Skip xs → IsElementKind kind.Skip xs
unfolding spelling placeholder extension_prefix no_include no_include_end only_include only_include_end include_only switch_prefix tag_name digits
skip_kind xs h =
    record {
      name = (refl, (refl, (refl, (refl, tt))));
      whole = refl;
      placed = λ r. refl;
      shows = refl;
      rises = refl;
      characters =
          (IsUtf8-are_ascii (codes "mw:Skip") refl, tt);
      row = λ n. plain_row kind.Skip xs refl h refl;
    }

tag_kind : (t : TagName) (xs : List (AttrName × List ℕ)) → HasAttributes (kind.Tag t) xs → IsElementKind (kind.Tag t) xs
unfolding spelling tag_name digits
tag_kind tag.Sup xs h =
    record {
      name = (refl, (refl, (refl, tt)));
      whole = refl;
      placed = λ r. refl;
      shows = refl;
      rises = refl;
      characters =
          tt;
      row = λ n. plain_row (kind.Tag tag.Sup) xs refl h refl;
    }
tag_kind tag.Sub xs h =
    record {
      name = (refl, (refl, (refl, tt)));
      whole = refl;
      placed = λ r. refl;
      shows = refl;
      rises = refl;
      characters =
          tt;
      row = λ n. plain_row (kind.Tag tag.Sub) xs refl h refl;
    }
tag_kind tag.Small xs h =
    record {
      name = (refl, (refl, (refl, (refl, (refl, tt)))));
      whole = refl;
      placed = λ r. refl;
      shows = refl;
      rises =
          refl;
      characters = tt;
      row = λ n. plain_row (kind.Tag tag.Small) xs refl h refl;
    }
tag_kind tag.S xs h =
    record {
      name = (refl, tt);
      whole = refl;
      placed = λ r. refl;
      shows = refl;
      rises = refl;
      characters = tt;
      row =
          λ n. plain_row (kind.Tag tag.S) xs refl h refl;
    }
tag_kind tag.U xs h =
    record {
      name = (refl, tt);
      whole = refl;
      placed = λ r. refl;
      shows = refl;
      rises = refl;
      characters = tt;
      row =
          λ n. plain_row (kind.Tag tag.U) xs refl h refl;
    }
tag_kind tag.Code xs h =
    record {
      name = (refl, (refl, (refl, (refl, tt))));
      whole = refl;
      placed = λ r. refl;
      shows = refl;
      rises = refl;
      characters =
          tt;
      row = λ n. plain_row (kind.Tag tag.Code) xs refl h refl;
    }
tag_kind tag.Span xs h =
    record {
      name = (refl, (refl, (refl, (refl, tt))));
      whole = refl;
      placed = λ r. refl;
      shows = refl;
      rises = refl;
      characters =
          tt;
      row = λ n. plain_row (kind.Tag tag.Span) xs refl h refl;
    }

ul_kind : (xs : List (AttrName × List ℕ)) → HasAttributes kind.Ul xs → IsElementKind kind.Ul xs
unfolding spelling placeholder extension_prefix no_include no_include_end only_include only_include_end include_only switch_prefix tag_name digits
ul_kind xs h =
    record {
      name = (refl, (refl, tt));
      whole = refl;
      placed = λ r. refl;
      shows = refl;
      rises = refl;
      characters = tt;
      row =
          λ n. plain_row kind.Ul xs refl h refl;
    }

ol_kind : (xs : List (AttrName × List ℕ)) → HasAttributes kind.Ol xs → IsElementKind kind.Ol xs
unfolding spelling placeholder extension_prefix no_include no_include_end only_include only_include_end include_only switch_prefix tag_name digits
ol_kind xs h =
    record {
      name = (refl, (refl, tt));
      whole = refl;
      placed = λ r. refl;
      shows = refl;
      rises = refl;
      characters = tt;
      row =
          λ n. plain_row kind.Ol xs refl h refl;
    }

dl_kind : (xs : List (AttrName × List ℕ)) → HasAttributes kind.Dl xs → IsElementKind kind.Dl xs
unfolding spelling placeholder extension_prefix no_include no_include_end only_include only_include_end include_only switch_prefix tag_name digits
dl_kind xs h =
    record {
      name = (refl, (refl, tt));
      whole = refl;
      placed = λ r. refl;
      shows = refl;
      rises = refl;
      characters = tt;
      row =
          λ n. plain_row kind.Dl xs refl h refl;
    }

li_kind : (xs : List (AttrName × List ℕ)) → HasAttributes kind.Li xs → IsElementKind kind.Li xs
unfolding spelling placeholder extension_prefix no_include no_include_end only_include only_include_end include_only switch_prefix tag_name digits
li_kind xs h =
    record {
      name = (refl, (refl, tt));
      whole = refl;
      placed = λ r. refl;
      shows = refl;
      rises = refl;
      characters = tt;
      row =
          λ n. plain_row kind.Li xs refl h refl;
    }

dt_kind : (xs : List (AttrName × List ℕ)) → HasAttributes kind.Dt xs → IsElementKind kind.Dt xs
unfolding spelling placeholder extension_prefix no_include no_include_end only_include only_include_end include_only switch_prefix tag_name digits
dt_kind xs h =
    record {
      name = (refl, (refl, tt));
      whole = refl;
      placed = λ r. refl;
      shows = refl;
      rises = refl;
      characters = tt;
      row =
          λ n. plain_row kind.Dt xs refl h refl;
    }

dd_kind : (xs : List (AttrName × List ℕ)) → HasAttributes kind.Dd xs → IsElementKind kind.Dd xs
unfolding spelling placeholder extension_prefix no_include no_include_end only_include only_include_end include_only switch_prefix tag_name digits
dd_kind xs h =
    record {
      name = (refl, (refl, tt));
      whole = refl;
      placed = λ r. refl;
      shows = refl;
      rises = refl;
      characters = tt;
      row =
          λ n. plain_row kind.Dd xs refl h refl;
    }

table_kind : (xs : List (AttrName × List ℕ)) → HasAttributes kind.Table xs → IsElementKind kind.Table xs
unfolding spelling placeholder extension_prefix no_include no_include_end only_include only_include_end include_only switch_prefix tag_name digits
table_kind xs h =
    record {
      name = (refl, (refl, (refl, (refl, (refl, tt)))));
      whole = refl;
      placed = λ r. refl;
      shows = refl;
      rises =
          refl;
      characters = tt;
      row = λ n. plain_row kind.Table xs refl h refl;
    }

tbody_kind : (xs : List (AttrName × List ℕ)) → HasAttributes kind.Tbody xs → IsElementKind kind.Tbody xs
unfolding spelling placeholder extension_prefix no_include no_include_end only_include only_include_end include_only switch_prefix tag_name digits
tbody_kind xs h =
    record {
      name = (refl, (refl, (refl, (refl, (refl, tt)))));
      whole = refl;
      placed = λ r. refl;
      shows = refl;
      rises =
          refl;
      characters = tt;
      row = λ n. plain_row kind.Tbody xs refl h refl;
    }

tr_kind : (xs : List (AttrName × List ℕ)) → HasAttributes kind.Tr xs → IsElementKind kind.Tr xs
unfolding spelling placeholder extension_prefix no_include no_include_end only_include only_include_end include_only switch_prefix tag_name digits
tr_kind xs h =
    record {
      name = (refl, (refl, tt));
      whole = refl;
      placed = λ r. refl;
      shows = refl;
      rises = refl;
      characters = tt;
      row =
          λ n. plain_row kind.Tr xs refl h refl;
    }

caption_kind : (xs : List (AttrName × List ℕ)) → HasAttributes kind.Caption xs → IsElementKind kind.Caption xs
unfolding spelling placeholder extension_prefix no_include no_include_end only_include only_include_end include_only switch_prefix tag_name digits
caption_kind xs h =
    record {
      name = (refl, (refl, (refl, (refl, (refl, (refl, (refl, tt)))))));
      whole = refl;
      placed = λ r. refl;
      shows =
          refl;
      rises = refl;
      characters = tt;
      row = λ n. plain_row kind.Caption xs refl h refl;
    }

td_kind : (xs : List (AttrName × List ℕ)) → HasAttributes kind.Td xs → IsElementKind kind.Td xs
unfolding spelling placeholder extension_prefix no_include no_include_end only_include only_include_end include_only switch_prefix tag_name digits
td_kind xs h =
    record {
      name = (refl, (refl, tt));
      whole = refl;
      placed = λ r. refl;
      shows = refl;
      rises = refl;
      characters = tt;
      row =
          λ n. plain_row kind.Td xs refl h refl;
    }

th_kind : (xs : List (AttrName × List ℕ)) → HasAttributes kind.Th xs → IsElementKind kind.Th xs
unfolding spelling placeholder extension_prefix no_include no_include_end only_include only_include_end include_only switch_prefix tag_name digits
th_kind xs h =
    record {
      name = (refl, (refl, tt));
      whole = refl;
      placed = λ r. refl;
      shows = refl;
      rises = refl;
      characters = tt;
      row =
          λ n. plain_row kind.Th xs refl h refl;
    }

level_cases : (P : ℕ → Type 0) → P 1 → P 2 → P 3 → P 4 → P 5 → P 6 → (n : ℕ) → (nat_le 1 n && nat_le n 6) ≡ true → P n
level_cases P a b c d e f zero h = absurd cc
level_cases P a b c d e f (suc zero) h = a
level_cases P a b c d e f (suc (suc zero)) h = b
level_cases P a b c d e f (suc (suc (suc zero))) h = c
level_cases P a b c d e f (suc (suc (suc (suc zero)))) h = d
level_cases P a b c d e f (suc (suc (suc (suc (suc zero))))) h = e
level_cases P a b c d e f (suc (suc (suc (suc (suc (suc zero)))))) h = f
level_cases P a b c d e f (suc (suc (suc (suc (suc (suc (suc n))))))) h = absurd (too_large (suc (suc (suc (suc (suc (suc (suc n))))))) (omega arith) h)
  where
    too_large : (n : ℕ) → 6 < n → (nat_le 1 n && nat_le n 6) ≡ true → ⊥
    too_large n l h = grind (arith, nat_tests)

-- what the number of a level tells
pub record IsHeadingName (n : ℕ) : Type 0 where
  pub name : IsName (element_name (kind.Heading n))
  pub whole : is_void (element_name (kind.Heading n)) ≡ false
  pub row : row_of (kind.Heading n) (fixed_attributes (kind.Heading n)) ≡ Some (kind.Heading n)

heading_name : (n : ℕ) → (nat_le 1 n && nat_le n 6) ≡ true → IsHeadingName n
unfolding spelling digits tag_name
heading_name = level_cases IsHeadingName
    (record { name = (refl, (refl, tt)); whole = refl; row = refl })
    (record { name = (refl, (refl, tt)); whole = refl; row = refl })
    (record { name = (refl, (refl, tt)); whole = refl; row = refl })
    (record { name = (refl, (refl, tt)); whole = refl; row = refl })
    (record { name = (refl, (refl, tt)); whole = refl; row = refl })
    (record { name = (refl, (refl, tt)); whole = refl; row = refl })

heading_kind : (n : ℕ) (xs : List (AttrName × List ℕ)) → (nat_le 1 n && nat_le n 6) ≡ true → HasAttributes (kind.Heading n) xs
    → IsElementKind (kind.Heading n) xs
unfolding spelling tag_name digits
heading_kind n xs l h =
    let q = heading_name n l in
    record {
      name = q.name;
      whole = q.whole;
      placed = λ r. refl;
      shows = refl;
      rises = refl;
      characters = tt;
      row =
          λ m. plain_row (kind.Heading n) xs refl h q.row;
    }

body_kind : (xs : List (AttrName × List ℕ)) → IsElementKind kind.Body xs
unfolding spelling tag_name digits
body_kind xs = record {
  name = (refl, (refl, (refl, (refl, tt))));
  whole = refl;
  placed = λ r. refl;
  shows = refl;
  rises =
      refl;
  characters = tt;
  row = λ h. cc;
}

-- ---- islands, include tags and switches: one attribute tells them

pub record IsTold (n : AttrName) (test : List ℕ → Bool) (xs : List (AttrName × List ℕ)) : Type 0 where
  pub value : List ℕ
  pub passes : test value ≡ true
  pub alone : xs ≡ (n, value) ∷ []

not_true : false ≡ true → ⊥
not_true e = cc

skip_row : (a b : Bool) (k : Kind) (r : Option Kind) → a ≡ false → (if a && b then Some k else r) ≡ r
skip_row true b k r e = cc
skip_row false b k r e = refl

take_row : (a b : Bool) (k : Kind) (r : Option Kind) → a ≡ true → b ≡ true → (if a && b then Some k else r) ≡ Some k
take_row true true k r e f = refl
take_row true false k r e f = cc
take_row false b k r e f = cc

skip_last : (a : Bool) (k : Kind) (r : Option Kind) → a ≡ false → (if a then Some k else r) ≡ r
skip_last true k r e = cc
skip_last false k r e = refl

island_told : (xs : List (AttrName × List ℕ)) → HasAttributes kind.Island xs → IsTold attr.Typeof is_island_type xs
unfolding spelling tag_name digits
island_told xs (inl h) = record { value = h.0; passes = h.3; alone = h.2 ∙ ap (λ ys. (attr.Typeof, h.0) ∷ ys) h.6 }
island_told xs (inr h) = absurd (not_true (sym h.0))

include_told : (xs : List (AttrName × List ℕ)) → HasAttributes kind.Include xs → IsTold attr.Typeof is_include_type xs
unfolding spelling tag_name digits
include_told xs (inl h) = record { value = h.0; passes = h.3; alone = h.2 ∙ ap (λ ys. (attr.Typeof, h.0) ∷ ys) h.6 }
include_told xs (inr h) = absurd (not_true (sym h.0))

switch_told : (xs : List (AttrName × List ℕ)) → HasAttributes kind.Switch xs → IsTold attr.Property is_switch_name xs
unfolding spelling tag_name digits
switch_told xs (inl h) = record { value = h.0; passes = h.3; alone = h.2 ∙ ap (λ ys. (attr.Property, h.0) ∷ ys) h.6 }
switch_told xs (inr h) = absurd (not_true (sym h.0))

island_row : (t : List ℕ) → is_island_type t ≡ true → row_by (codes "span") (Some t) None None ≡ Some kind.Island
unfolding spelling placeholder extension_prefix tag_name digits
island_row t h =
    skip_row (bytes_eq t (codes "mw:Entity")) true kind.Entity _ (other_text is_island_type t (codes "mw:Entity") h refl)
    ∙ skip_row (bytes_eq t (codes "mw:Nowiki")) true kind.Nowiki _ (other_text is_island_type t (codes "mw:Nowiki") h refl)
    ∙ take_row (is_island_type t) true kind.Island _ h refl

include_row : (t : List ℕ) → is_include_type t ≡ true → row_by (codes "meta") (Some t) None None ≡ Some kind.Include
unfolding spelling no_include no_include_end only_include only_include_end include_only tag_name digits
include_row t h =
    skip_row (bytes_eq t (codes "mw:Comment")) true kind.Comment _ (other_text is_include_type t (codes "mw:Comment") h refl)
    ∙ take_row (is_include_type t) true kind.Include _ h refl

switch_row : (t : List ℕ) → is_switch_name t ≡ true → row_by (codes "meta") None (Some t) None ≡ Some kind.Switch
unfolding spelling tag_name digits
switch_row t h = take_row (is_switch_name t) true kind.Switch _ h refl

island_kind : (xs : List (AttrName × List ℕ)) → HasAttributes kind.Island xs → IsElementKind kind.Island xs
unfolding spelling tag_name digits
island_kind xs h =
    let t = island_told xs h in
    record {
      name = (refl, (refl, (refl, (refl, tt))));
      whole = refl;
      placed = λ r. refl;
      shows = refl;
      rises = refl;
      characters = tt;
      row = λ n. subst (λ ys. row_of kind.Island ys ≡ Some kind.Island) (sym t.alone) (island_row t.value t.passes);
    }

include_kind : (xs : List (AttrName × List ℕ)) → HasAttributes kind.Include xs → IsElementKind kind.Include xs
unfolding spelling tag_name digits
include_kind xs h =
    let t = include_told xs h in
    record {
      name = (refl, (refl, (refl, (refl, tt))));
      whole = refl;
      placed = λ r. refl;
      shows = refl;
      rises = refl;
      characters = tt;
      row = λ n. subst (λ ys. row_of kind.Include ys ≡ Some kind.Include) (sym t.alone) (include_row t.value t.passes);
    }

switch_kind : (xs : List (AttrName × List ℕ)) → HasAttributes kind.Switch xs → IsElementKind kind.Switch xs
unfolding spelling tag_name digits
switch_kind xs h =
    let t = switch_told xs h in
    record {
      name = (refl, (refl, (refl, (refl, tt))));
      whole = refl;
      placed = λ r. refl;
      shows = refl;
      rises = refl;
      characters = tt;
      row = λ n. subst (λ ys. row_of kind.Switch ys ≡ Some kind.Switch) (sym t.alone) (switch_row t.value t.passes);
    }

-- ---- all of them

-- a section is no element with a row
abbrev pub is_somewhere : Placement → Bool
is_somewhere Nowhere = false
is_somewhere Section = false
is_somewhere c = true

nowhere : (h : Holding) → admits h Nowhere ≡ true → ⊥
nowhere holding.NoElements e = cc
nowhere holding.Blocks e = cc
nowhere holding.Inlines e = cc
nowhere holding.Entities e = cc
nowhere holding.Items e = cc
nowhere holding.Terms e = cc
nowhere holding.TableParts e = cc
nowhere holding.TableRows e = cc
nowhere holding.Cells e = cc
nowhere holding.InlinesThenLists e = cc
nowhere holding.InlinesThenBlocks e = cc

somewhere : (h : Holding) (c : Placement) → (is_anywhere c || admits h c) ≡ true → is_class c Section ≡ false → is_somewhere c ≡ true
somewhere h Nowhere e s = absurd (nowhere h e)
somewhere h Section e s = absurd (cc s)
somewhere h c e s = refl

level_of : (n : ℕ) → has_level (kind.Heading n) ≡ true → (nat_le 1 n && nat_le n 6) ≡ true
unfolding spelling
level_of n h = h

pub element_kind : (k : Kind) (xs : List (AttrName × List ℕ)) → is_somewhere (shape k).class ≡ true → has_level k ≡ true → HasAttributes k xs → IsElementKind k xs
element_kind kind.Para xs e l h = para_kind xs h
element_kind kind.Rule xs e l h = rule_kind xs h
element_kind kind.Pre xs e l h = pre_kind xs h
element_kind kind.Bold xs e l h = bold_kind xs h
element_kind kind.Italic xs e l h = italic_kind xs h
element_kind kind.WikiLink xs e l h = wikilink_kind xs h
element_kind kind.ExtLink xs e l h = extlink_kind xs h
element_kind kind.Category xs e l h = category_kind xs h
element_kind kind.Br xs e l h = br_kind xs h
element_kind kind.Entity xs e l h = entity_kind xs h
element_kind kind.Nowiki xs e l h = nowiki_kind xs h
element_kind kind.Comment xs e l h = comment_kind xs h
element_kind kind.Skip xs e l h = skip_kind xs h
element_kind (kind.Heading n) xs e l h = heading_kind n xs (level_of n l) h
element_kind (kind.Tag t) xs e l h = tag_kind t xs h
element_kind kind.Island xs e l h = island_kind xs h
element_kind kind.Include xs e l h = include_kind xs h
element_kind kind.Switch xs e l h = switch_kind xs h
element_kind kind.Body xs e l h = absurd (not_true e)
element_kind (kind.Section n) xs e l h = absurd (not_true e)
element_kind kind.Sep xs e l h = absurd (not_true e)
element_kind kind.Text xs e l h = absurd (not_true e)
element_kind kind.Group xs e l h = absurd (not_true e)
element_kind kind.Empty xs e l h = absurd (not_true e)
element_kind kind.Ul xs e l h = ul_kind xs h
element_kind kind.Ol xs e l h = ol_kind xs h
element_kind kind.Dl xs e l h = dl_kind xs h
element_kind kind.Li xs e l h = li_kind xs h
element_kind kind.Dt xs e l h = dt_kind xs h
element_kind kind.Dd xs e l h = dd_kind xs h
element_kind kind.Table xs e l h = table_kind xs h
element_kind kind.Tbody xs e l h = tbody_kind xs h
element_kind kind.Tr xs e l h = tr_kind xs h
element_kind kind.Caption xs e l h = caption_kind xs h
element_kind kind.Td xs e l h = td_kind xs h
element_kind kind.Th xs e l h = th_kind xs h

pub numbered : (k : Kind) → is_somewhere (shape k).class ≡ true → is_numbered k ≡ true
numbered kind.Body e = absurd (not_true e)
numbered (kind.Section n) e = absurd (not_true e)
numbered kind.Sep e = absurd (not_true e)
numbered kind.Text e = absurd (not_true e)
numbered k e = refl

pub held : (parent k : Kind) → may_hold parent k ≡ true → is_section k ≡ false → is_somewhere (shape k).class ≡ true
held parent k h s = somewhere (shape parent).holding (shape k).class h s

pub held_kind : (parent : Kind) (l : Label) → may_hold parent l.kind ≡ true → IsElementLabel l → IsElementKind l.kind l.attrs
held_kind parent l h e = element_kind l.kind l.attrs (held parent l.kind h e.element) e.level e.attrs

pub held_numbered : (parent : Kind) (l : Label) → may_hold parent l.kind ≡ true → is_section l.kind ≡ false → is_numbered l.kind ≡ true
held_numbered parent l h s = numbered l.kind (held parent l.kind h s)

pub body_is_kind : (l : Label) → l.kind ≡ kind.Body → IsElementLabel l → IsElementKind l.kind l.attrs
body_is_kind l h e = subst (λ k. IsElementKind k l.attrs) (sym h) (body_kind l.attrs)
