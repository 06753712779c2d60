-- The text of `data-parsoid` is UTF-8, as the texts in it are.
use Rattle.std.proofs.Common.{ℕ, ◌<◌, ◌^◌, List, [], ◌∷◌, Option, Some, None, codes, decimal, refl, sym, subst, arith}
use Rattle.std.specs.Prelude.{IfSome}
use Rattle.std.specs.Str.{IsUtf8}
use Rattle.std.proofs.lemmas.Str.{IsUtf8-nil, IsUtf8-append, IsUtf8-from_ascii}
use Rattle.std.proofs.lemmas.Fmt.{IsAscii-decimal}
use Rattle.json.proofs.Printed.Utf8.{IsUtf8-are_ascii, IsUtf8-quoted}
use Rattle.json.specs.Print.{quoted}
use Rattle.wt_tree.specs.declared.kind.Ranges.{Ranges}
use Rattle.wt_datamw.specs.declared.sync.Sync.{Sync}
use Rattle.wt_datamw.specs.Sync.{sync_text}
use Rattle.wt_datamw.specs.SyncRead.{IsSmall}
use Rattle.wt_datamw.specs.SyncPieces.{closing_text, next_text, dsr_text, later_text, opening_text, source_text}
use Rattle.wt_datamw.proofs.SyncPieces.{sync_text_pieces}

colon_then : (xs : List ℕ) → IsUtf8 xs → IsUtf8 (58 ∷ xs)
colon_then xs h = IsUtf8-append (58 ∷ []) xs (IsUtf8-are_ascii (58 ∷ []) refl) h

closing_utf8 : (text : List ℕ) → IsUtf8 text → IsUtf8 (closing_text text)
closing_utf8 [] h = IsUtf8-nil
closing_utf8 (b ∷ bs) h =
    IsUtf8-append (quoted (codes "c")) _ (IsUtf8-quoted (codes "c") (IsUtf8-are_ascii (codes "c") refl))
    (colon_then _ (IsUtf8-append (quoted (b ∷ bs)) (codes ",") (IsUtf8-quoted (b ∷ bs) h) (IsUtf8-are_ascii (codes ",") refl)))

later_utf8 : (key text : List ℕ) → IsUtf8 key → IsUtf8 text → IsUtf8 (later_text key text)
later_utf8 key text k h =
    IsUtf8-append (codes ",") _ (IsUtf8-are_ascii (codes ",") refl)
    (IsUtf8-append (quoted key) _ (IsUtf8-quoted key k) (colon_then (quoted text) (IsUtf8-quoted text h)))

opening_utf8 : (text : List ℕ) → IsUtf8 text → IsUtf8 (opening_text text)
opening_utf8 [] h = IsUtf8-nil
opening_utf8 (b ∷ bs) h = later_utf8 (codes "o") (b ∷ bs) (IsUtf8-are_ascii (codes "o") refl) h

source_utf8 : (src : Option (List ℕ)) → IfSome src IsUtf8 → IsUtf8 (source_text src)
source_utf8 None h = IsUtf8-nil
source_utf8 (Some text) h = later_utf8 (codes "src") text (IsUtf8-are_ascii (codes "src") refl) h

decimal_utf8 : (n : ℕ) → n < 2 ^ 32 → IsUtf8 (decimal n)
decimal_utf8 n h = IsUtf8-from_ascii (decimal n) (IsAscii-decimal n (omega (arith, h)))

next_utf8 : (n : ℕ) → n < 2 ^ 32 → IsUtf8 (next_text n)
next_utf8 n h = IsUtf8-append (codes ",") (decimal n) (IsUtf8-are_ascii (codes ",") refl) (decimal_utf8 n h)

dsr_utf8 : (r : Ranges) → r.start < 2 ^ 32 → r.end < 2 ^ 32 → r.open_w < 2 ^ 32 → r.close_w < 2 ^ 32 → IsUtf8 (dsr_text r)
unfolding dsr_text
dsr_utf8 r a b c d =
    IsUtf8-append (quoted (codes "dsr")) _ (IsUtf8-quoted (codes "dsr") (IsUtf8-are_ascii (codes "dsr") refl))
    (IsUtf8-append (codes ":[") _ (IsUtf8-are_ascii (codes ":[") refl)
    (IsUtf8-append (decimal r.start) _ (decimal_utf8 r.start a)
    (IsUtf8-append (next_text r.end) _ (next_utf8 r.end b)
    (IsUtf8-append (next_text r.open_w) _ (next_utf8 r.open_w c)
    (IsUtf8-append (next_text r.close_w) _ (next_utf8 r.close_w d) (IsUtf8-are_ascii (codes "]") refl))))))

pub sync_utf8 : (s : Sync) → IsSmall s → IsUtf8 s.opening → IsUtf8 s.closing → IfSome s.src IsUtf8 → IsUtf8 (sync_text s)
sync_utf8 s small o c src =
    subst IsUtf8 (sym (sync_text_pieces s)) (
    IsUtf8-append (codes "{") _ (IsUtf8-are_ascii (codes "{") refl) (
    IsUtf8-append (closing_text s.closing) _ (closing_utf8 s.closing c) (
    IsUtf8-append (dsr_text s.dsr) _ (dsr_utf8 s.dsr small.0 small.1 small.2 small.3) (
    IsUtf8-append (opening_text s.opening) _ (opening_utf8 s.opening o)
    (IsUtf8-append (source_text s.src) (codes "}") (source_utf8 s.src src) (IsUtf8-are_ascii (codes "}") refl))))))
