-- The bytes that a scan passes over.
use Rattle.std.specs.Prelude.{ℕ, ◌==◌, ◌||◌, not, Bool, true, false, List}
use Rattle.std.specs.List.{prefix_len}
use Rattle.wt_span.specs.Bytes.{is_blank}
use Rattle.wt_span.specs.Characters as byte
use Rattle.wt_attributes.specs.declared.class.ScanClass.{ScanClass}
use Rattle.wt_attributes.specs.declared.class.ScanClass.TheVariants as class

-- what a value without quotes may hold: no space, no tab, no `"`, no `'`, no `=`
abbrev pub is_bare : ℕ → Bool
is_bare b = not (is_blank b || (b == byte.quotation_mark || (b == byte.apostrophe || b == byte.equals_sign)))

abbrev pub in_class : ScanClass → ℕ → Bool
in_class class.Blank b = is_blank b
in_class class.NoBlank b = not (is_blank b)
in_class class.Bare b = is_bare b
in_class class.NoDouble b = not (b == byte.quotation_mark)
in_class class.NoSingle b = not (b == byte.apostrophe)

-- a byte that ends a run of them is in ASCII
abbrev pub ends_in_ascii : ScanClass → Bool
ends_in_ascii class.Blank = false
ends_in_ascii class.NoBlank = true
ends_in_ascii class.Bare = true
ends_in_ascii class.NoDouble = true
ends_in_ascii class.NoSingle = true

-- how many of them begin a text
abbrev pub run_len : ScanClass → List ℕ → ℕ
run_len c bs = prefix_len (in_class c) bs
