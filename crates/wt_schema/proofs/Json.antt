-- The JSON of `data-parsoid`, and that of `data-mw` of an extension: it is UTF-8, and read as what was
-- written.
use Rattle.std.proofs.Common.{◌≡◌, ℕ, ◌<◌, ◌≤◌, ◌^◌, Bool, true, false, Option, Some, None, List, [], ◌∷◌, IsUtf8, decimal, refl, ap, ◌∙◌, subst, arith, codes}
use Rattle.std.specs.Prelude.{Ok}
use Rattle.std.proofs.lemmas.Fmt.{IsAscii-decimal}
use Rattle.std.proofs.lemmas.Str.{IsUtf8-append, IsUtf8-nil, IsUtf8-encode, IsUtf8-from_ascii, encode_ascii}
use lib.Utf8.{low_scalar}
use Rattle.json.specs.Tree as tree
use Rattle.json.proofs.Printed.Utf8.{IsUtf8-are_ascii, IsUtf8-quoted, IsUtf8-boolean}
use Rattle.serde_json.specs.Data.{Num, unsigned, negative, float, Data, null, boolean, number, string, array, object, Items, no_items, item, Members, no_members, member}
use Rattle.serde_json.specs.Read.{of_json}
use Rattle.serde_json.specs.Written.{outline, comma_if, compact_text, items_text, members_text}
use Rattle.wt_tree.specs.declared.kind.Ranges.{Ranges}
use Rattle.wt_datamw.specs.declared.sync.Sync.{Sync}
use Rattle.wt_datamw.specs.Sync.{put_dsr, put_text, put_source, sync_members, sync_data, sync_text}
use Rattle.wt_datamw.specs.SyncRead.{IsSmall}
use Rattle.wt_datamw.proofs.SyncTold.{json_read}
use Rattle.wt_tree.specs.declared.node.DataMw.{DataMw}
use Rattle.wt_tree.specs.declared.node.DataMw.TheVariants as mw
use Rattle.wt_datamw.specs.Mw.{mw_data, mw_text}
use Rattle.wt_datamw.specs.MwRead.{has_small_numbers, mw_of_json, mw_told}
use Rattle.wt_datamw.proofs.MwBack.{reads_ordered}
use Rattle.wt_schema.specs.Written.{IsUtf8IfAny}

-- ---- UTF-8

pub ascii_then : (x : ℕ) (xs : List ℕ) → x < 128 → IsUtf8 xs → IsUtf8 (x ∷ xs)
ascii_then x xs small u = IsUtf8-append (x ∷ []) xs (subst IsUtf8 (encode_ascii x small) (IsUtf8-encode x (low_scalar x (omega arith)))) u

comma_utf8 : (b : Bool) → IsUtf8 (comma_if b)
comma_utf8 true = IsUtf8-are_ascii (44 ∷ []) refl
comma_utf8 false = IsUtf8-nil

-- texts in UTF-8, and natural numbers in 64 bits
abbrev pub IsNatural : Num → Type 0
IsNatural (unsigned n) = n < 2 ^ 64
IsNatural (negative z) = ⊥
IsNatural (float x) = ⊥

abbrev mutual
  pub HasUtf8 : Data → Type 0
  HasUtf8 null = Unit {0}
  HasUtf8 (boolean b) = Unit {0}
  HasUtf8 (number n) = IsNatural n
  HasUtf8 (string s) = IsUtf8 s
  HasUtf8 (array ds) = ItemsHaveUtf8 ds
  HasUtf8 (object ms) = MembersHaveUtf8 ms

  pub ItemsHaveUtf8 : Items → Type 0
  ItemsHaveUtf8 no_items = Unit {0}
  ItemsHaveUtf8 (item d ds) = HasUtf8 d × ItemsHaveUtf8 ds

  pub MembersHaveUtf8 : Members → Type 0
  MembersHaveUtf8 no_members = Unit {0}
  MembersHaveUtf8 (member k d ms) = IsUtf8 k × HasUtf8 d × MembersHaveUtf8 ms

number_utf8 : (n : Num) → IsNatural n → IsUtf8 (compact_text (number n))
number_utf8 (unsigned n) h = IsUtf8-from_ascii (decimal n) (IsAscii-decimal n h)
number_utf8 (negative z) h = absurd h
number_utf8 (float x) h = absurd h

mutual
  pub data_utf8 : (d : Data) → HasUtf8 d → IsUtf8 (compact_text d)
  data_utf8 null h = IsUtf8-are_ascii _ refl
  data_utf8 (boolean b) h = IsUtf8-boolean b
  data_utf8 (number n) h = number_utf8 n h
  data_utf8 (string s) h = IsUtf8-quoted s h
  data_utf8 (array ds) h = ascii_then 91 _ (omega arith) (items_utf8 false ds h)
  data_utf8 (object ms) h = ascii_then 123 _ (omega arith) (members_utf8 false ms h)

  items_utf8 : (later : Bool) (ds : Items) → ItemsHaveUtf8 ds → IsUtf8 (items_text later ds)
  items_utf8 later no_items h = IsUtf8-are_ascii (93 ∷ []) refl
  items_utf8 later (item d ds) h = IsUtf8-append _ _ (comma_utf8 later) (IsUtf8-append _ _ (data_utf8 d h.0) (items_utf8 true ds h.1))

  members_utf8 : (later : Bool) (ms : Members) → MembersHaveUtf8 ms → IsUtf8 (members_text later ms)
  members_utf8 later no_members h = IsUtf8-are_ascii (125 ∷ []) refl
  members_utf8 later (member k d ms) h =
      IsUtf8-append _ _ (comma_utf8 later)
      (IsUtf8-append _ _ (IsUtf8-quoted k h.0) (ascii_then 58 _ (omega arith) (IsUtf8-append _ _ (data_utf8 d h.1) (members_utf8 true ms h.2))))

-- the parts of `data-parsoid`
abbrev parts : Ranges → List ℕ → List ℕ → Option (List ℕ) → Data
parts r o c src = object (put_source src (put_text (codes "o") o (put_dsr r (put_text (codes "c") c no_members))))

abbrev AreSmall : Ranges → Type 0
AreSmall r = (r.start < 2 ^ 64) × (r.end < 2 ^ 64) × (r.open_w < 2 ^ 64) × (r.close_w < 2 ^ 64)

parts_utf8 : (r : Ranges) (o c : List ℕ) (src : Option (List ℕ)) → AreSmall r → IsUtf8 o → IsUtf8 c → IsUtf8IfAny src
    → IsUtf8 (codes "c") → IsUtf8 (codes "dsr") → IsUtf8 (codes "o") → IsUtf8 (codes "src") → HasUtf8 (parts r o c src)
parts_utf8 r [] [] None n o c s kc kd ko ks = (kd, (n.0, (n.1, (n.2, (n.3, tt)))), tt)
parts_utf8 r [] [] (Some t) n o c s kc kd ko ks = (kd, (n.0, (n.1, (n.2, (n.3, tt)))), (ks, s, tt))
parts_utf8 r [] (b ∷ bs) None n o c s kc kd ko ks = (kc, c, (kd, (n.0, (n.1, (n.2, (n.3, tt)))), tt))
parts_utf8 r [] (b ∷ bs) (Some t) n o c s kc kd ko ks = (kc, c, (kd, (n.0, (n.1, (n.2, (n.3, tt)))), (ks, s, tt)))
parts_utf8 r (d ∷ ds) [] None n o c s kc kd ko ks = (kd, (n.0, (n.1, (n.2, (n.3, tt)))), (ko, o, tt))
parts_utf8 r (d ∷ ds) [] (Some t) n o c s kc kd ko ks = (kd, (n.0, (n.1, (n.2, (n.3, tt)))), (ko, o, (ks, s, tt)))
parts_utf8 r (d ∷ ds) (b ∷ bs) None n o c s kc kd ko ks = (kc, c, (kd, (n.0, (n.1, (n.2, (n.3, tt)))), (ko, o, tt)))
parts_utf8 r (d ∷ ds) (b ∷ bs) (Some t) n o c s kc kd ko ks = (kc, c, (kd, (n.0, (n.1, (n.2, (n.3, tt)))), (ko, o, (ks, s, tt))))

are_small : (s : Sync) → IsSmall s → AreSmall s.dsr
are_small s h = (omega arith, omega arith, omega arith, omega arith)

pub sync_utf8 : (s : Sync) → IsSmall s → IsUtf8 s.opening → IsUtf8 s.closing → IsUtf8IfAny s.src → IsUtf8 (sync_text s)
unfolding sync_text sync_members
sync_utf8 s h o c src =
    data_utf8 (sync_data s)
    (parts_utf8 s.dsr s.opening s.closing s.src (are_small s h) o c src (IsUtf8-are_ascii (codes "c") refl)
    (IsUtf8-are_ascii (codes "dsr") refl) (IsUtf8-are_ascii (codes "o") refl)
    (IsUtf8-are_ascii (codes "src") refl))

-- ---- the data of an extension

extension_has_utf8 : (name : List ℕ) (body : Option (List ℕ)) → IsUtf8 name → IsUtf8IfAny body → IsUtf8 (codes "body")
    → IsUtf8 (codes "extsrc") → IsUtf8 (codes "name") → HasUtf8 (mw_data (mw.Extension name body))
extension_has_utf8 name None n b kb ke kn = (kn, n, tt)
extension_has_utf8 name (Some text) n b kb ke kn = (kb, (ke, b, tt), (kn, n, tt))

pub extension_utf8 : (name : List ℕ) (body : Option (List ℕ)) → IsUtf8 name → IsUtf8IfAny body → IsUtf8 (mw_text (mw.Extension name body))
unfolding mw_text
extension_utf8 name body n b =
    data_utf8 (mw_data (mw.Extension name body))
    (extension_has_utf8 name body n b (IsUtf8-are_ascii (codes "body") refl) (IsUtf8-are_ascii (codes "extsrc") refl) (IsUtf8-are_ascii (codes "name") refl))

extension_numbers : (name : List ℕ) (body : Option (List ℕ)) → tree.HasNumbers (outline (mw_data (mw.Extension name body)))
extension_numbers name None = (tt, tt)
extension_numbers name (Some text) = ((tt, tt), (tt, tt))

extension_depth : (name : List ℕ) (body : Option (List ℕ)) → tree.depth (outline (mw_data (mw.Extension name body))) ≤ 2
extension_depth name None = omega arith
extension_depth name (Some text) = omega arith

extension_same : (name : List ℕ) (body : Option (List ℕ)) → of_json (outline (mw_data (mw.Extension name body))) ≡ Some (mw_data (mw.Extension name body))
extension_same name None = refl
extension_same name (Some text) = refl

extension_small : (name : List ℕ) (body : Option (List ℕ)) → has_small_numbers (mw_data (mw.Extension name body)) ≡ true
unfolding has_small_numbers
extension_small name None = refl
extension_small name (Some text) = refl

pub extension_read : (name : List ℕ) (body : Option (List ℕ)) → mw_told (mw_text (mw.Extension name body)) ≡ Ok (mw.Extension name body)
unfolding mw_text mw_told
extension_read name body =
    let d : DataMw = mw.Extension name body in
    let l : tree.depth (outline (mw_data d)) ≤ 2 = extension_depth name body in
    ap mw_of_json (json_read (mw_data d) (extension_numbers name body) (omega arith) (extension_same name body))
    ∙ reads_ordered d (extension_small name body) tt
