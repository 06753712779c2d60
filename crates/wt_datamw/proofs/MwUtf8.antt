-- The text of `data-mw` is UTF-8, as the texts in it are.
use Rattle.std.proofs.Common.{ℕ, ◌<◌, ◌^◌, Bool, true, false, List, [], ◌∷◌, ◌++◌, Some, None, decimal, codes, refl, arith}
use Rattle.std.specs.List.{AllByRecursion}
use Rattle.std.proofs.lemmas.List.Elements.{recursion_from_All}
use Rattle.std.specs.Str.{IsUtf8}
use Rattle.std.specs.Ordering.{nat_cmp, match_ordering}
use Rattle.std.specs.Cmp.Lexicographic.{slice_cmp}
use Rattle.std.specs.declared.cmp.Ordering.{Ordering}
use Rattle.std.specs.declared.cmp.Ordering.TheVariants.{Less, Equal, Greater}
use Rattle.std.proofs.lemmas.Str.{IsUtf8-nil, IsUtf8-append, IsUtf8-from_ascii}
use Rattle.std.proofs.lemmas.Fmt.{IsAscii-decimal}
use Rattle.json.specs.Token as token
use Rattle.json.specs.Print.{quoted, token_text}
use Rattle.json.proofs.Printed.Utf8.{IsUtf8-are_ascii, IsUtf8-quoted, IsUtf8-boolean}
use Rattle.serde_json.specs.Data.{Data, null, boolean, number, string, array, object, Items, no_items, item, Members, no_members, member, put}
use Rattle.serde_json.specs.Written.{number_text, comma_if, compact_text, items_text, members_text}
use Rattle.wt_tree.specs.declared.node.DataMw.{DataMw}
use Rattle.wt_tree.specs.declared.node.DataMw.TheVariants as mw
use Rattle.wt_tree.specs.declared.node.Part.{Part}
use Rattle.wt_tree.specs.declared.node.Part.TheVariants as part
use Rattle.wt_datamw.specs.Mw.{wt_data, params_from, params_data, template_data, function_data, part_data, parts_items, mw_data, mw_text}
use Rattle.wt_datamw.specs.MwValues.{IsParam, IsPart, IsMw}

-- the strings of a value are UTF-8, and so are its numbers
abbrev mutual
  HasUtf8 : Data → Type 0
  HasUtf8 null = Unit {0}
  HasUtf8 (boolean b) = Unit {0}
  HasUtf8 (number n) = IsUtf8 (number_text n)
  HasUtf8 (string s) = IsUtf8 s
  HasUtf8 (array ds) = ItemsHaveUtf8 ds
  HasUtf8 (object ms) = MembersHaveUtf8 ms

  ItemsHaveUtf8 : Items → Type 0
  ItemsHaveUtf8 no_items = Unit {0}
  ItemsHaveUtf8 (item d ds) = HasUtf8 d × ItemsHaveUtf8 ds

  MembersHaveUtf8 : Members → Type 0
  MembersHaveUtf8 no_members = Unit {0}
  MembersHaveUtf8 (member k d ms) = IsUtf8 k × HasUtf8 d × MembersHaveUtf8 ms

comma_utf8 : (later : Bool) → IsUtf8 (comma_if later)
comma_utf8 true = IsUtf8-are_ascii (44 ∷ []) refl
comma_utf8 false = IsUtf8-nil

behind : (b : ℕ) (xs : List ℕ) → IsUtf8 (b ∷ []) → IsUtf8 xs → IsUtf8 (b ∷ xs)
behind b xs h u = IsUtf8-append (b ∷ []) xs h u

mutual
  data_utf8 : (d : Data) → HasUtf8 d → IsUtf8 (compact_text d)
  data_utf8 null h = IsUtf8-are_ascii (token_text token.null) refl
  data_utf8 (boolean b) h = IsUtf8-boolean b
  data_utf8 (number n) h = h
  data_utf8 (string s) h = IsUtf8-quoted s h
  data_utf8 (array ds) h = behind 91 (items_text false ds) (IsUtf8-are_ascii (91 ∷ []) refl) (items_utf8 false ds h)
  data_utf8 (object ms) h = behind 123 (members_text false ms) (IsUtf8-are_ascii (123 ∷ []) refl) (members_utf8 false ms h)

  items_utf8 : (later : Bool) (ds : Items) → ItemsHaveUtf8 ds → IsUtf8 (items_text later ds)
  items_utf8 later no_items h = IsUtf8-are_ascii (93 ∷ []) refl
  items_utf8 later (item d ds) h =
      IsUtf8-append (comma_if later) (compact_text d ++ items_text true ds) (comma_utf8 later)
      (IsUtf8-append (compact_text d) (items_text true ds) (data_utf8 d h.0) (items_utf8 true ds h.1))

  members_utf8 : (later : Bool) (ms : Members) → MembersHaveUtf8 ms → IsUtf8 (members_text later ms)
  members_utf8 later no_members h = IsUtf8-are_ascii (125 ∷ []) refl
  members_utf8 later (member k d ms) h =
      IsUtf8-append (comma_if later) (quoted k ++ 58 ∷ (compact_text d ++ members_text true ms)) (comma_utf8 later)
      (IsUtf8-append (quoted k) (58 ∷ (compact_text d ++ members_text true ms)) (IsUtf8-quoted k h.0)
      (behind 58 (compact_text d ++ members_text true ms) (IsUtf8-are_ascii (58 ∷ []) refl)
      (IsUtf8-append (compact_text d) (members_text true ms) (data_utf8 d h.1) (members_utf8 true ms h.2))))

match_utf8 : (o : Ordering) (a b c : Members) → MembersHaveUtf8 a → MembersHaveUtf8 b → MembersHaveUtf8 c → MembersHaveUtf8 (match_ordering o a b c)
match_utf8 Less a b c e f g = e
match_utf8 Equal a b c e f g = f
match_utf8 Greater a b c e f g = g

put_utf8 : (k : List ℕ) (d : Data) (ms : Members) → IsUtf8 k → HasUtf8 d → MembersHaveUtf8 ms → MembersHaveUtf8 (put k d ms)
put_utf8 k d no_members hk hd hm = (hk, hd, tt)
put_utf8 k d (member l e ms) hk hd hm =
    match_utf8 (slice_cmp nat_cmp k l) (member k d (member l e ms)) (member l d ms) (member l e (put k d ms))
    (hk, hd, hm) (hm.0, hd, hm.2) (hm.0, hm.1, put_utf8 k d ms hk hd hm.2)

-- ---- `data-mw`

wt_utf8 : (text : List ℕ) → IsUtf8 text → HasUtf8 (wt_data text)
wt_utf8 text h = (IsUtf8-are_ascii (codes "wt") refl, h, tt)

params_utf8 : (ps : List (List ℕ × List ℕ)) (ms : Members) → AllByRecursion IsParam ps → MembersHaveUtf8 ms → MembersHaveUtf8 (params_from ms ps)
params_utf8 [] ms h m = m
params_utf8 (p ∷ ps) ms h m = params_utf8 ps (put p.0 (wt_data p.1) ms) h.1 (put_utf8 p.0 (wt_data p.1) ms h.0.0 (wt_utf8 p.1 h.0.1) m)

decimal_utf8 : (n : ℕ) → n < 2 ^ 32 → IsUtf8 (decimal n)
decimal_utf8 n h = IsUtf8-from_ascii (decimal n) (IsAscii-decimal n (omega (arith, h)))

part_utf8 : (p : Part) → IsPart p → HasUtf8 (part_data p)
unfolding template_data function_data params_data
part_utf8 (part.Template target href ps i) h = (
  IsUtf8-are_ascii (codes "template") refl,
  (
    IsUtf8-are_ascii (codes "i") refl,
    decimal_utf8 i h.3,
    (
      IsUtf8-are_ascii (codes "params") refl,
      params_utf8 ps no_members (recursion_from_All IsParam ps h.2) tt,
      (IsUtf8-are_ascii (codes "target") refl, (IsUtf8-are_ascii (codes "href") refl, h.1, wt_utf8 target h.0), tt),
    ),
  ),
  tt,
)
part_utf8 (part.Function name target ps i) h = (
  IsUtf8-are_ascii (codes "template") refl,
  (
    IsUtf8-are_ascii (codes "i") refl,
    decimal_utf8 i h.3,
    (
      IsUtf8-are_ascii (codes "params") refl,
      params_utf8 ps no_members (recursion_from_All IsParam ps h.2) tt,
      (IsUtf8-are_ascii (codes "target") refl, (IsUtf8-are_ascii (codes "function") refl, h.0, wt_utf8 target h.1), tt),
    ),
  ),
  tt,
)
part_utf8 (part.Param source) h = (IsUtf8-are_ascii (codes "param") refl, wt_utf8 source h, tt)
part_utf8 (part.Literal text) h = h

parts_utf8 : (ps : List Part) → AllByRecursion IsPart ps → ItemsHaveUtf8 (parts_items ps)
parts_utf8 [] h = tt
parts_utf8 (p ∷ ps) h = (part_utf8 p h.0, parts_utf8 ps h.1)

values_utf8 : (d : DataMw) → IsMw d → HasUtf8 (mw_data d)
values_utf8 (mw.Parts ps) h = (IsUtf8-are_ascii (codes "parts") refl, parts_utf8 ps (recursion_from_All IsPart ps h), tt)
values_utf8 (mw.Extension name None) h = (IsUtf8-are_ascii (codes "name") refl, h.0, tt)
values_utf8 (mw.Extension name (Some text)) h =
    (IsUtf8-are_ascii (codes "body") refl, (IsUtf8-are_ascii (codes "extsrc") refl, h.1, tt), (IsUtf8-are_ascii (codes "name") refl, h.0, tt))

pub mw_utf8 : (d : DataMw) → IsMw d → IsUtf8 (mw_text d)
unfolding mw_text
mw_utf8 d h = data_utf8 (mw_data d) (values_utf8 d h)
