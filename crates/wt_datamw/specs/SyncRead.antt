-- What a text of `data-parsoid` says, or why it is refused.
use Rattle.std.specs.Prelude.{◌≡◌, ℕ, ◌<◌, ◌^◌, ◌&&◌, Bool, true, false, List, [], ◌∷◌, Option, Some, None, Result, Ok, Err, codes, nat_lt, is_some, unwrap_or, option_and_then, if◌then◌else◌}
use Rattle.std.specs.List.{list_any}
use Rattle.std.specs.Str.{bytes_eq}
use Rattle.serde_json.specs.Data.{Data, Items, no_items, item, Members, no_members, member}
use Rattle.serde_json.specs.Find.{get, as_object, as_array, as_number, as_u64, as_str}
use Rattle.serde_json.specs.Read.{read}
use Rattle.wt_tree.specs.declared.kind.Ranges.{Ranges}
use Rattle.wt_datamw.specs.declared.sync.Sync.{Sync}
use Rattle.wt_datamw.specs.declared.refusal.DataWhy.{DataWhy}
use Rattle.wt_datamw.specs.declared.refusal.DataWhy.TheVariants as why
use Rattle.wt_datamw.specs.declared.refusal.DataRefusal.{DataRefusal}
use Rattle.wt_datamw.specs.declared.refusal.DataRefusal.TheVariants.{BadData, NoMemory}

-- what is read, or the reason; want of memory may come at any text
abbrev pub ReadsAs : {A : Type 0} → Result A DataWhy → Result A DataRefusal → Type 0
ReadsAs told (Ok value) = told ≡ Ok value
ReadsAs told (Err (BadData w)) = told ≡ Err w
ReadsAs told (Err NoMemory) = Unit {0}

-- ---- shapes

-- every key of an object passes a test
abbrev pub only_keys : (List ℕ → Bool) → Members → Bool
only_keys p no_members = true
only_keys p (member k d ms) = p k && only_keys p ms

abbrev pub has_only : (List ℕ → Bool) → Option Members → Bool
has_only p None = false
has_only p (Some ms) = only_keys p ms

-- a key is one of these
abbrev pub is_among : List (List ℕ) → List ℕ → Bool
is_among keys k = list_any (λ key. bytes_eq key k) keys

-- a key that may be missing has a text
abbrev pub is_text_if_any : Option Data → Bool
is_text_if_any None = true
is_text_if_any (Some d) = is_some (as_str d)

abbrev pub is_number : Data → Bool
is_number d = is_some (as_number d)

-- four numbers
abbrev pub are_four_numbers : Items → Bool
are_four_numbers (item a (item b (item c (item d no_items)))) = is_number a && (is_number b && (is_number c && is_number d))
are_four_numbers ds = false

abbrev pub is_dsr : Option Items → Bool
is_dsr None = false
is_dsr (Some ds) = are_four_numbers ds

abbrev pub dsr_in : Data → Option Items
dsr_in d = option_and_then as_array (get (codes "dsr") d)

abbrev pub is_sync_key : List ℕ → Bool
is_sync_key = is_among (codes "c" ∷ codes "dsr" ∷ codes "o" ∷ codes "src" ∷ [])

-- The shape: an object with `dsr`, an array of four numbers, and maybe `c`, `o` and `src`, which are
-- texts, and no other keys.
unfoldable pub is_sync_shape : Data → Bool
is_sync_shape d =
    has_only is_sync_key (as_object d) && (is_dsr (dsr_in d) &&
    (is_text_if_any (get (codes "c") d) && (is_text_if_any (get (codes "o") d) && is_text_if_any (get (codes "src") d))))

-- ---- values

-- a whole number from 0 to 4,294,967,295 in digits alone
abbrev pub small : Option ℕ → Option ℕ
small None = None
small (Some n) = if nat_lt n (2 ^ 32) then Some n else None

abbrev pub small_number : Data → Option ℕ
small_number d = small (option_and_then as_u64 (as_number d))

abbrev pub ranges_of : Option ℕ → Option ℕ → Option ℕ → Option ℕ → Option Ranges
ranges_of (Some a) (Some b) (Some c) (Some d) = Some (record { start = a; end = b; open_w = c; close_w = d })
ranges_of a b c d = None

abbrev pub four_small : Items → Option Ranges
four_small (item a (item b (item c (item d no_items)))) = ranges_of (small_number a) (small_number b) (small_number c) (small_number d)
four_small ds = None

-- a text under a key that may be missing
abbrev pub text_in : List ℕ → Data → Option (List ℕ)
text_in k d = option_and_then as_str (get k d)

-- the value with these places; without them a number was too large or no whole one
abbrev pub sync_with : Data → Option Ranges → Result Sync DataWhy
sync_with d None = Err why.Number
sync_with d (Some r) =
    Ok (record { dsr = r; opening = unwrap_or (text_in (codes "o") d) []; closing = unwrap_or (text_in (codes "c") d) []; src = text_in (codes "src") d })

unfoldable pub sync_of_data : Data → Result Sync DataWhy
sync_of_data d = if is_sync_shape d then sync_with d (option_and_then four_small (dsr_in d)) else Err why.Shape

abbrev pub sync_of_json : Option Data → Result Sync DataWhy
sync_of_json None = Err why.Json
sync_of_json (Some d) = sync_of_data d

-- what a text says: its reasons are tried in the order JSON, shape, number
unfoldable pub sync_told : List ℕ → Result Sync DataWhy
sync_told text = sync_of_json (read text)

-- places that a page can have: below 2^32
abbrev pub IsSmall : Sync → Type 0
IsSmall s = (s.dsr.start < 2 ^ 32) × (s.dsr.end < 2 ^ 32) × (s.dsr.open_w < 2 ^ 32) × (s.dsr.close_w < 2 ^ 32)
