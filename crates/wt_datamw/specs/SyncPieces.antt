-- The text of `data-parsoid`, piece by piece as it is written.
use Rattle.std.specs.Prelude.{List, [], ◌∷◌, ◌++◌, Option, Some, None, ℕ, codes, decimal}
use Rattle.wt_span.specs.Characters as byte
use Rattle.json.specs.Print.{quoted}
use Rattle.wt_tree.specs.declared.kind.Ranges.{Ranges}
use Rattle.wt_datamw.specs.declared.sync.Sync.{Sync}

-- a delimiter before the places under the key `c`, left out where it is empty
abbrev pub closing_text : List ℕ → List ℕ
closing_text [] = []
closing_text (b ∷ bs) = quoted (codes "c") ++ (byte.colon ∷ (quoted (b ∷ bs) ++ codes ","))

-- a number after another one
abbrev pub next_text : ℕ → List ℕ
next_text n = codes "," ++ decimal n

-- the four places under the key `dsr`
unfoldable pub dsr_text : Ranges → List ℕ
dsr_text r =
    quoted (codes "dsr") ++ (codes ":[" ++ (decimal r.start ++ (next_text r.end ++ (next_text r.open_w ++ (next_text r.close_w ++ codes "]")))))

-- a text after the places under a key
abbrev pub later_text : List ℕ → List ℕ → List ℕ
later_text key text = codes "," ++ (quoted key ++ (byte.colon ∷ quoted text))

abbrev pub opening_text : List ℕ → List ℕ
opening_text [] = []
opening_text (b ∷ bs) = later_text (codes "o") (b ∷ bs)

abbrev pub source_text : Option (List ℕ) → List ℕ
source_text None = []
source_text (Some text) = later_text (codes "src") text

abbrev pub sync_pieces : Sync → List ℕ
sync_pieces s = codes "{" ++ (closing_text s.closing ++ (dsr_text s.dsr ++ (opening_text s.opening ++ (source_text s.src ++ codes "}"))))
