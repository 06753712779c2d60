-- The JSON of `data-parsoid`.
use Rattle.std.specs.Prelude.{ℕ, List, [], ◌∷◌, Option, Some, None, codes}
use Rattle.serde_json.specs.Data.{Data, number, unsigned, string, array, object, item, no_items, Members, no_members, put}
use Rattle.serde_json.specs.Written.{compact_text}
use Rattle.wt_tree.specs.declared.kind.Ranges.{Ranges}
use Rattle.wt_datamw.specs.declared.sync.Sync.{Sync}

abbrev pub number_data : ℕ → Data
number_data n = number (unsigned n)

-- the four places: where it starts and ends, and the widths of its delimiters
abbrev pub dsr_data : Ranges → Data
dsr_data r = array (item (number_data r.start) (item (number_data r.end) (item (number_data r.open_w) (item (number_data r.close_w) no_items))))

abbrev pub put_dsr : Ranges → Members → Members
put_dsr r ms = put (codes "dsr") (dsr_data r) ms

-- a delimiter, left out where it is empty
abbrev pub put_text : List ℕ → List ℕ → Members → Members
put_text key [] ms = ms
put_text key (b ∷ bs) ms = put key (string (b ∷ bs)) ms

-- the source, where there is one
abbrev pub put_source : Option (List ℕ) → Members → Members
put_source None ms = ms
put_source (Some text) ms = put (codes "src") (string text) ms

-- The closing delimiter under `c`, the places under `dsr`, the opening delimiter under `o` and the
-- source under `src`. (`put` keeps the keys in byte order.)
unfoldable pub sync_members : Sync → Members
sync_members s = put_source s.src (put_text (codes "o") s.opening (put_dsr s.dsr (put_text (codes "c") s.closing no_members)))

abbrev pub sync_data : Sync → Data
sync_data s = object (sync_members s)

-- the text of the attribute, before it is escaped: compact JSON
unfoldable pub sync_text : Sync → List ℕ
sync_text s = compact_text (sync_data s)
