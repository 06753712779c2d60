-- What is accepted of `data-parsoid`.
use Rattle.std.proofs.Common.{◌≡◌, refl, sym, ◌∙◌, ap, subst, ℕ, ◌<◌, ◌^◌, Bool, true, false, cond, Option, Some, None, List, [], ◌∷◌}
use Rattle.std.specs.Prelude.{◌↔◌, ◌&&◌, Result, Ok, Err, codes, nat_lt, unwrap_or, option_map, option_and_then, IfSome}
use Rattle.std.proofs.lemmas.Bool.{ltb-true, lt-ltb}
use Rattle.serde_json.specs.Data.{unsigned, negative, float, Data, null, boolean, number, string, array, object, Items, no_items, item, Members, no_members, member}
use Rattle.serde_json.specs.Find.{get_member, as_str, as_array}
use Rattle.serde_json.specs.Read.{read}
use Rattle.wt_tree.specs.declared.kind.Ranges.{Ranges}
use Rattle.wt_datamw.specs.declared.sync.Sync.{Sync}
use Rattle.wt_datamw.specs.declared.refusal.DataWhy.{DataWhy}
use Rattle.wt_datamw.specs.Sync.{dsr_data}
use Rattle.wt_datamw.specs.SyncRead.{small, small_number, ranges_of, four_small, is_text_if_any, is_dsr, dsr_in, is_sync_key, has_only, sync_with, is_sync_shape, sync_of_data, sync_of_json, sync_told}
use Rattle.wt_page_laws.specs.Told.{text_member, or_empty, SaysSync}
use Rattle.wt_page_laws.proofs.Tidy.{Tidy, Sorted, read_tidy}
use Rattle.wt_page_laws.proofs.Fields.{pick, both, fields}

-- ---- numbers

small_by : (b : Bool) (m n : ℕ) → nat_lt m (2 ^ 32) ≡ b → cond b (Some m) None ≡ Some n → (m ≡ n) × (n < 2 ^ 32)
small_by true m n e h = let same : m ≡ n = cc in (same, subst (λ x. x < 2 ^ 32) same (ltb-true m (2 ^ 32) e))
small_by false m n e h = cc

pub number_is : (d : Data) (n : ℕ) → small_number d ≡ Some n → (d ≡ number (unsigned n)) × (n < 2 ^ 32)
number_is null n h = cc
number_is (boolean b) n h = cc
number_is (number (unsigned m)) n h = let s : (m ≡ n) × (n < 2 ^ 32) = small_by (nat_lt m (2 ^ 32)) m n refl h in (ap (λ x. number (unsigned x)) s.0, s.1)
number_is (number (negative z)) n h = cc
number_is (number (float x)) n h = cc
number_is (string s) n h = cc
number_is (array ds) n h = cc
number_is (object ms) n h = cc

record AreThese (a b c d : Option ℕ) (r : Ranges) : Type 0 where
  first : a ≡ Some r.start
  second : b ≡ Some r.end
  third : c ≡ Some r.open_w
  fourth : d ≡ Some r.close_w

these : (a b c d : Option ℕ) (r : Ranges) → ranges_of a b c d ≡ Some r → AreThese a b c d r
these (Some a) (Some b) (Some c) (Some d) r h =
    let made : Ranges = record { start = a; end = b; open_w = c; close_w = d } in
    let same : made ≡ r = cc in
    record { first = ap (λ x. Some x.start) same; second = ap (λ x. Some x.end) same; third = ap (λ x. Some x.open_w) same; fourth = ap (λ x. Some x.close_w) same }
these None b c d r h = cc
these (Some a) None c d r h = cc
these (Some a) (Some b) None d r h = cc
these (Some a) (Some b) (Some c) None r h = cc

abbrev AreSmall : Ranges → Type 0
AreSmall r = (r.start < 2 ^ 32) × (r.end < 2 ^ 32) × (r.open_w < 2 ^ 32) × (r.close_w < 2 ^ 32)

four : (ds : Items) (r : Ranges) → four_small ds ≡ Some r → (array ds ≡ dsr_data r) × AreSmall r
four no_items r h = cc
four (item a no_items) r h = cc
four (item a (item b no_items)) r h = cc
four (item a (item b (item c no_items))) r h = cc
four (item a (item b (item c (item d no_items)))) r h =
    let t : AreThese (small_number a) (small_number b) (small_number c) (small_number d) r =
    these (small_number a) (small_number b) (small_number c) (small_number d) r h in
    let w : (a ≡ number (unsigned r.start)) × (r.start < 2 ^ 32) = number_is a r.start t.first in
    let x : (b ≡ number (unsigned r.end)) × (r.end < 2 ^ 32) = number_is b r.end t.second in
    let y : (c ≡ number (unsigned r.open_w)) × (r.open_w < 2 ^ 32) = number_is c r.open_w t.third in
    let z : (d ≡ number (unsigned r.close_w)) × (r.close_w < 2 ^ 32) = number_is d r.close_w t.fourth in
    (rw (w.0, x.0, y.0, z.0) refl, (w.1, x.1, y.1, z.1))
four (item a (item b (item c (item d (item e ds))))) r h = cc

places : (o : Option Data) (r : Ranges) → option_and_then four_small (option_and_then as_array o) ≡ Some r → (o ≡ Some (dsr_data r)) × AreSmall r
places None r h = cc
places (Some null) r h = cc
places (Some (boolean b)) r h = cc
places (Some (number n)) r h = cc
places (Some (string s)) r h = cc
places (Some (array ds)) r h = let f : (array ds ≡ dsr_data r) × AreSmall r = four ds r h in (ap Some f.0, f.1)
places (Some (object ms)) r h = cc

-- ---- texts

text_if : (o : Option Data) → is_text_if_any o ≡ true → o ≡ option_map string (option_and_then as_str o)
text_if None h = refl
text_if (Some null) h = cc
text_if (Some (boolean b)) h = cc
text_if (Some (number n)) h = cc
text_if (Some (string s)) h = refl
text_if (Some (array ds)) h = cc
text_if (Some (object ms)) h = cc

pick_text : (k : List ℕ) (t : Option (List ℕ)) (ms : Members) → pick k (option_map string t) ms ≡ text_member k t ms
pick_text k None ms = refl
pick_text k (Some t) ms = refl

-- ---- what is accepted is said

if_ok : (b : Bool) (r : Result Sync DataWhy) (w : DataWhy) (s : Sync) → (cond b r (Err w)) ≡ Ok s → (b ≡ true) × (r ≡ Ok s)
if_ok true r w s h = (refl, h)
if_ok false r w s h = cc

object_says : (text : List ℕ) (ms : Members) (s : Sync) (o : Option Ranges) → read text ≡ Some (object ms) → Sorted ms → is_sync_shape (object ms) ≡ true
    → option_and_then four_small (dsr_in (object ms)) ≡ o → sync_with (object ms) o ≡ Ok s → SaysSync text s
unfolding is_sync_shape
object_says text ms s None e t h f g = cc
object_says text ms s (Some r) e t h f g =
    let c = get_member (codes "c") ms in
    let o = get_member (codes "o") ms in
    let src = get_member (codes "src") ms in
    let made : Sync = record {
      dsr = r;
      opening = unwrap_or (option_and_then as_str o) [];
      closing = unwrap_or (option_and_then as_str c) [];
      src = option_and_then as_str src;
    } in
    let same : made ≡ s = cc in
    let k = both (has_only is_sync_key (Some ms)) (is_dsr (dsr_in (object ms)) && (is_text_if_any c && (is_text_if_any o && is_text_if_any src))) h in
    let l = both (is_dsr (dsr_in (object ms))) (is_text_if_any c && (is_text_if_any o && is_text_if_any src)) k.1 in
    let m = both (is_text_if_any c) (is_text_if_any o && is_text_if_any src) l.1 in
    let n = both (is_text_if_any o) (is_text_if_any src) m.1 in
    let four_places = places (get_member (codes "dsr") ms) r f in
    let keys : List (List ℕ) = codes "c" ∷ codes "dsr" ∷ codes "o" ∷ codes "src" ∷ [] in
    let all = fields keys ms t ((refl, (refl, (refl, tt))), ((refl, (refl, tt)), ((refl, tt), (tt, tt)))) k.0 in
    subst (SaysSync text) same
    (record {
      closing = option_and_then as_str c;
      opening = option_and_then as_str o;
      json =
          e ∙ ap (λ x. Some (object x)) (all
          ∙ ap (λ x. pick (codes "c") x (pick (codes "dsr") (get_member (codes "dsr") ms) (pick (codes "o") o (pick (codes "src") src no_members)))) (text_if c m.0)
          ∙ pick_text (codes "c") (option_and_then as_str c) (pick (codes "dsr") (get_member (codes "dsr") ms) (pick (codes "o") o (pick (codes "src") src no_members)))
          ∙ ap (λ x. text_member (codes "c") (option_and_then as_str c) (pick (codes "dsr") x (pick (codes "o") o (pick (codes "src") src no_members)))) four_places.0
          ∙ ap (λ x. text_member (codes "c") (option_and_then as_str c) (member (codes "dsr") (dsr_data r) x))
          (ap (λ x. pick (codes "o") x (pick (codes "src") src no_members)) (text_if o n.0)
          ∙ pick_text (codes "o") (option_and_then as_str o) (pick (codes "src") src no_members)
          ∙ ap (text_member (codes "o") (option_and_then as_str o)) (ap (λ x. pick (codes "src") x no_members) (text_if src n.1) ∙ pick_text (codes "src") (option_and_then as_str src) no_members)));
      closes = refl;
      opens = refl;
      small = four_places.1;
    })

data_says : (text : List ℕ) (d : Data) (s : Sync) → read text ≡ Some d → Tidy d → is_sync_shape d ≡ true → sync_with d (option_and_then four_small (dsr_in d)) ≡ Ok s → SaysSync text s
unfolding is_sync_shape
data_says text null s e t h g = cc
data_says text (boolean b) s e t h g = cc
data_says text (number n) s e t h g = cc
data_says text (string b) s e t h g = cc
data_says text (array ds) s e t h g = cc
data_says text (object ms) s e t h g = object_says text ms s (option_and_then four_small (dsr_in (object ms))) e t h refl g

accepted : (text : List ℕ) (s : Sync) (o : Option Data) → read text ≡ o → IfSome o Tidy → sync_of_json o ≡ Ok s → SaysSync text s
unfolding sync_of_data
accepted text s None e t h = cc
accepted text s (Some d) e t h =
    let k = if_ok (is_sync_shape d) (sync_with d (option_and_then four_small (dsr_in d))) _ s h in
    data_says text d s e t k.0 k.1

-- ---- what is said is accepted

small_is : (n : ℕ) → n < 2 ^ 32 → small (Some n) ≡ Some n
small_is n h = rw (lt-ltb n (2 ^ 32) h) refl

ranges_back : (r : Ranges) → AreSmall r → ranges_of (small (Some r.start)) (small (Some r.end)) (small (Some r.open_w)) (small (Some r.close_w)) ≡ Some r
ranges_back r h = rw (small_is r.start h.0, small_is r.end h.1, small_is r.open_w h.2, small_is r.close_w h.3) refl

abbrev told_by : Ranges → Option (List ℕ) → Option (List ℕ) → Option (List ℕ) → Data
told_by r c o src = object (text_member (codes "c") c (member (codes "dsr") (dsr_data r) (text_member (codes "o") o (text_member (codes "src") src no_members))))

abbrev sync_by : Ranges → Option (List ℕ) → Option (List ℕ) → Option (List ℕ) → Sync
sync_by r c o src = record { dsr = r; opening = or_empty o; closing = or_empty c; src = src }

takes : (r : Ranges) (c o src : Option (List ℕ)) → ranges_of (small (Some r.start)) (small (Some r.end)) (small (Some r.open_w)) (small (Some r.close_w)) ≡ Some r
    → sync_of_data (told_by r c o src) ≡ Ok (sync_by r c o src)
unfolding sync_of_data is_sync_shape
takes r None None None h = rw h
takes r None None (Some s) h = rw h
takes r None (Some o) None h = rw h
takes r None (Some o) (Some s) h = rw h
takes r (Some c) None None h = rw h
takes r (Some c) None (Some s) h = rw h
takes r (Some c) (Some o) None h = rw h
takes r (Some c) (Some o) (Some s) h = rw h

rebuilt : (s : Sync) (o c : List ℕ) → s.opening ≡ o → s.closing ≡ c → (record { dsr = s.dsr; opening = o; closing = c; src = s.src }) ≡ s
rebuilt s o c e f =
    let made : List ℕ → List ℕ → Sync = λ x y. record { dsr = s.dsr; opening = x; closing = y; src = s.src } in
    ap (λ x. made x c) (sym e) ∙ ap (λ y. made s.opening y) (sym f)

said : (text : List ℕ) (s : Sync) → SaysSync text s → sync_told text ≡ Ok s
unfolding sync_told
said text s h =
    ap sync_of_json h.json ∙ takes s.dsr h.closing h.opening s.src (ranges_back s.dsr h.small)
    ∙ ap Ok (rebuilt s (or_empty h.opening) (or_empty h.closing) h.opens h.closes)

pub sync_accepts : (text : List ℕ) (s : Sync) → (sync_told text ≡ Ok s) ↔ SaysSync text s
unfolding sync_told
sync_accepts text s = (λ h. accepted text s (read text) refl (read_tidy text) h, said text s)
