-- The values of `typeof`: which element each tells, and that they are UTF-8.
use Rattle.std.proofs.Common.{◌≡◌, ℕ, Bool, true, false, List, [], ◌∷◌, ◌++◌, length, take, drop, IsUtf8, refl, sym, ap, ◌∙◌, subst, codes}
use Rattle.std.specs.Prelude.{◌||◌}
use Rattle.std.specs.List.{list_any, list_all}
use Rattle.std.specs.Str.{bytes_eq}
use Rattle.std.proofs.lemmas.Bool.{and_parts, true≢false}
use Rattle.std.proofs.lemmas.Slice.Eq.{bytes_eq-Decides}
use Rattle.std.proofs.lemmas.List.{take-append-drop}
use Rattle.std.proofs.lemmas.Str.{IsUtf8-append}
use Rattle.json.proofs.Printed.Utf8.{are_ascii, IsUtf8-are_ascii}
use Rattle.wt_span.specs.Bytes.{begins}
use Rattle.wt_span.specs.Tags.{is_extension}
use Rattle.wt_tree.specs.Values.{extension_prefix, no_include, no_include_end, only_include, only_include_end, include_only, is_extension_type, is_include_type}

same_bytes : (xs ys : List ℕ) → bytes_eq xs ys ≡ true → xs ≡ ys
same_bytes xs ys e = (bytes_eq-Decides xs ys).0 e

-- a text that passes a test isn't one that fails it
pub other_text : (test : List ℕ → Bool) (t u : List ℕ) → test t ≡ true → test u ≡ false → bytes_eq t u ≡ false
other_text test t u h f = by_test (bytes_eq t u) refl
  where
    by_test : (b : Bool) → bytes_eq t u ≡ b → bytes_eq t u ≡ false
    by_test true e = absurd (true≢false (sym h ∙ ap test (same_bytes t u e) ∙ f))
    by_test false e = e

-- a text that is one of some is ASCII where these are
ascii_among : (t : List ℕ) (ns : List (List ℕ)) → list_any (bytes_eq t) ns ≡ true → list_all are_ascii ns ≡ true → are_ascii t ≡ true
ascii_among t [] h f = absurd (true≢false (sym h))
ascii_among t (n ∷ ns) h f = by_test (λ g. ascii_among t ns g (and_parts _ _ f).1) (bytes_eq t n) refl
  where
    by_test : (list_any (bytes_eq t) ns ≡ true → are_ascii t ≡ true) → (b : Bool) → bytes_eq t n ≡ b → are_ascii t ≡ true
    by_test more true e = ap are_ascii (same_bytes t n e) ∙ (and_parts _ _ f).0
    by_test more false e = more (ap (λ c. c || list_any (bytes_eq t) ns) (sym e) ∙ h)

-- ---- extensions

begins_is : (word bs : List ℕ) → begins word bs ≡ true → bs ≡ word ++ drop (length word) bs
begins_is word bs h = sym (take-append-drop (length word) bs) ∙ ap (λ x. x ++ drop (length word) bs) (sym (same_bytes word (take (length word) bs) h))

-- the names of extensions
abbrev extensions : List (List ℕ)
extensions =
    codes "ref" ∷ codes "references" ∷ codes "gallery" ∷ codes "math" ∷ codes "pre" ∷ codes "poem"
    ∷ codes "syntaxhighlight" ∷ codes "source" ∷ codes "score" ∷ codes "timeline" ∷ codes "imagemap" ∷ codes "templatestyles" ∷ []

pub extension_ascii : (name : List ℕ) → is_extension name ≡ true → are_ascii name ≡ true
unfolding is_extension
extension_ascii name h = ascii_among name extensions h refl

pub extension_utf8 : (t : List ℕ) → is_extension_type t ≡ true → IsUtf8 t
unfolding extension_prefix
extension_utf8 t h =
    let q = and_parts _ _ h in
    subst IsUtf8 (sym (begins_is extension_prefix t q.0))
    (IsUtf8-append extension_prefix _ (IsUtf8-are_ascii extension_prefix refl) (IsUtf8-are_ascii _ (extension_ascii _ q.1)))

-- ---- include tags

pub include_utf8 : (t : List ℕ) → is_include_type t ≡ true → IsUtf8 t
unfolding no_include no_include_end only_include only_include_end include_only
include_utf8 t h = IsUtf8-are_ascii t (ascii_among t (no_include ∷ no_include_end ∷ only_include ∷ only_include_end ∷ include_only ∷ []) h refl)
