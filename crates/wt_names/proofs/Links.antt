-- A link leads back to its title, and a full name is read back.
use Rattle.std.proofs.Common.{◌≡◌, ◌≢◌, ℕ, ◌<◌, Bool, true, false, cond, not, ◌||◌, ◌&&◌, nat_eq, nat_lt, Option, Some, None, option_map, IfSome, List, [], ◌∷◌, ◌++◌, length, All, refl, sym, ap, ◌∙◌, subst, inl, inr, ⊎_elim, arith, lit<, append_assoc, codes}
use Rattle.std.specs.Str.{IsUtf8}
use Rattle.std.specs.List.{starts_with}
use Rattle.std.proofs.lemmas.Bool.{lt-ltb, cond-true, cases_Bool, both_ways}
use Rattle.std.proofs.lemmas.List.{append-nil}
use Rattle.std.proofs.lemmas.List.Elements.{All-head, All-tail}
use Rattle.std.proofs.lemmas.Option.{cond_some}
use Rattle.std.proofs.lemmas.Str.{IsUtf8-nil, IsUtf8-append, IsUtf8-from_is_utf8}
use Rattle.percent_encoding.specs.AsciiSet.{contains, should_percent_encode}
use Rattle.percent_encoding.specs.Percent.{percent_encode, percent_decode}
use Rattle.percent_encoding.specs.declared.ascii_set.AsciiSet.{AsciiSet}
use Rattle.percent_encoding.proofs.AsciiSetLemmas.{escaped_from_inside}
use Rattle.percent_encoding.proofs.PercentLemmas.{IsByte, percent_encode-nil, percent_encode_escaped, percent_encode_kept, percent_decode-nil, percent_decode_not_percent, percent_decode-percent_encode_byte}
use Rattle.wt_names.specs.declared.link.TheConstants.{LINK}
use Rattle.wt_names.specs.declared.title.Title.{Title}
use Rattle.wt_names.specs.Namespace.{prefix_of, full_name_of}
use Rattle.wt_names.specs.Reading.{spaced, title_in, whole_in, cut_namespace}
use Rattle.wt_names.specs.Good.{is_forbidden, is_allowed, is_good, is_short, has_no_colon_first, has_escape, has_signature, is_relative, is_some_text, read_text}
use Rattle.wt_names.specs.Tidy.{is_no_fragment_byte, IsTidyFragment, IsTidy, fragment_suffix, text_of}
use Rattle.wt_names.specs.Written.{underscored, link_text, link_fragment, link_to, read_bytes, read_link}
use Rattle.wt_names.proofs.Lacks.{Lacks, lacks_from_any, lacks_append, lacks_replaced, replaced_back}
use Rattle.wt_names.proofs.Prefixes.{is_sign, named_or_main, prefix_main}
use Rattle.wt_names.proofs.Readings.{whole, named_name, first_lacks, second_lacks, read_tidy, read_written}
use Rattle.wt_names.proofs.Ascii.{replaced-append}
use Rattle.wt_names.proofs.Escapes.{link_escaped, read_bytes-text}
use Rattle.wt_names.proofs.Words.{begins-append}
use Rattle.wt_names.proofs.Utf8.{one_byte, utf8_bytes, utf8_replaced, title_utf8}

-- ---- decoding

-- an encoded front is decoded first
pub decode_front : (set : AsciiSet) (bs rest : List ℕ) → contains set 37 ≡ true → All IsByte bs
    → percent_decode (percent_encode set bs ++ rest) ≡ bs ++ percent_decode rest
decode_front set [] rest percent small = ap (λ x. percent_decode (x ++ rest)) (percent_encode-nil set)
decode_front set (b ∷ bs) rest percent small =
    let on = ap (λ x. b ∷ x) (decode_front set bs rest percent (All-tail IsByte b bs small)) in
    ⊎_elim
    (λ e. ap (λ x. percent_decode (x ++ rest)) (percent_encode_escaped set b bs e)
    ∙ ap percent_decode (append_assoc _ (percent_encode set bs) rest)
    ∙ percent_decode-percent_encode_byte b (percent_encode set bs ++ rest) (All-head IsByte b bs small) ∙ on)
    (λ e. ap (λ x. percent_decode (x ++ rest)) (percent_encode_kept set b bs e)
    ∙ percent_decode_not_percent b (percent_encode set bs ++ rest)
    (λ is. both_ways _ e (subst (λ (c : ℕ). should_percent_encode set c ≡ true) (sym is) (escaped_from_inside set 37 percent))) ∙ on)
    (cases_Bool (should_percent_encode set b))

-- ---- the text that a link holds

-- what stands in a link, its escapes read
abbrev pub linked : Title → List ℕ
linked t = underscored (full_name_of t) ++ fragment_suffix (option_map underscored t.fragment)

text_decoded : (text rest : List ℕ) → All IsByte (underscored text) → percent_decode (link_text text ++ rest) ≡ underscored text ++ percent_decode rest
unfolding link_text
text_decoded text rest small = ap (λ x. percent_decode (x ++ rest)) (sym (link_escaped (underscored text)))
    ∙ decode_front LINK (underscored text) rest refl small

fragment_decoded : (fragment : Option (List ℕ)) → IfSome fragment IsUtf8
    → percent_decode (link_fragment fragment) ≡ fragment_suffix (option_map underscored fragment)
fragment_decoded None is = percent_decode-nil
fragment_decoded (Some f) is =
    percent_decode_not_percent 35 (link_text f) (λ e. absurd (omega (arith, e)))
    ∙ ap (λ x. 35 ∷ x) (ap percent_decode (sym (append-nil (link_text f)))
    ∙ text_decoded f [] (utf8_bytes _ (utf8_replaced 32 95 f (lit< tt) (lit< tt) is))
    ∙ ap (λ x. underscored f ++ x) percent_decode-nil ∙ append-nil (underscored f))

full_utf8 : (t : Title) → IsUtf8 t.name → IsUtf8 (full_name_of t)
unfolding full_name_of
full_utf8 t is = elim (named_or_main t.ns) [
  | inl main ↦
      let none : prefix_of t.ns ≡ [] = ap prefix_of main ∙ prefix_main in
      subst IsUtf8 (ap (λ x. x ++ t.name) (sym none)) is
  | inr prefixed ↦ IsUtf8-append (prefix_of t.ns) t.name (IsUtf8-from_is_utf8 (prefix_of t.ns) prefixed.utf8) is
]

suffix_utf8 : (fragment : Option (List ℕ)) → IfSome fragment IsUtf8 → IsUtf8 (fragment_suffix (option_map underscored fragment))
suffix_utf8 None is = IsUtf8-nil
suffix_utf8 (Some f) is = IsUtf8-append (35 ∷ []) (underscored f) (one_byte 35 (lit< tt)) (utf8_replaced 32 95 f (lit< tt) (lit< tt) is)

suffix_back : (fragment : Option (List ℕ)) → IfSome fragment IsTidyFragment
    → spaced (fragment_suffix (option_map underscored fragment)) ≡ fragment_suffix fragment
suffix_back None tidy = refl
suffix_back (Some f) tidy = ap (λ x. 35 ∷ x) (replaced_back 32 95 f (second_lacks is_forbidden (is_sign 95) f (lacks_from_any is_no_fragment_byte f tidy.0)))

suffix_allowed : (fragment : Option (List ℕ)) → IfSome fragment IsTidyFragment → Lacks is_forbidden (fragment_suffix (option_map underscored fragment))
unfolding is_forbidden
suffix_allowed None tidy = tt
suffix_allowed (Some f) tidy = (
  refl,
  lacks_replaced is_forbidden 32 95 refl f
      (first_lacks is_forbidden (is_sign 95) f (lacks_from_any is_no_fragment_byte f tidy.0)),
)

underscore_allowed : is_forbidden 95 ≡ false
unfolding is_forbidden
underscore_allowed = refl

linked_reads : (t : Title) → IsTidy t → read_text (linked t) ≡ Some t
linked_reads t tidy =
    let full = full_name_of t in
    let bytes = first_lacks is_no_fragment_byte (is_sign 35) full (whole t tidy).bytes in
    let allowed = first_lacks is_forbidden (is_sign 95) full bytes in
    let plain = second_lacks is_forbidden (is_sign 95) full bytes in
    let suffix = fragment_suffix (option_map underscored t.fragment) in
    let back = replaced-append 95 32 (underscored full) suffix ∙ ap (λ x. x ++ spaced suffix) (replaced_back 32 95 full plain)
    ∙ ap (λ x. full ++ x) (suffix_back t.fragment tidy.fragment) in
    read_written (linked t) t tidy back (lacks_append is_forbidden (underscored full) suffix
    (lacks_replaced is_forbidden 32 95 underscore_allowed full allowed) (suffix_allowed t.fragment tidy.fragment))

link_decoded : (t : Title) → IsUtf8 t.name → IfSome t.fragment IsUtf8 → percent_decode (link_text (full_name_of t) ++ link_fragment t.fragment) ≡ linked t
link_decoded t name fragment =
    let full = full_name_of t in
    text_decoded full (link_fragment t.fragment) (utf8_bytes _ (utf8_replaced 32 95 full (lit< tt) (lit< tt) (full_utf8 t name)))
    ∙ ap (λ x. underscored full ++ x) (fragment_decoded t.fragment fragment)

linked_utf8 : (t : Title) → IsUtf8 t.name → IfSome t.fragment IsUtf8 → IsUtf8 (linked t)
linked_utf8 t name fragment = IsUtf8-append _ _ (utf8_replaced 32 95 (full_name_of t) (lit< tt) (lit< tt) (full_utf8 t name)) (suffix_utf8 t.fragment fragment)

pub link_back : (t : Title) → IsTidy t → IsUtf8 t.name → IfSome t.fragment IsUtf8 → read_link (link_to t) ≡ Some t
unfolding read_link link_to
link_back t tidy name fragment =
    let rest = link_text (full_name_of t) ++ link_fragment t.fragment in
    cond-true (starts_with nat_eq (codes "./" ++ rest) (codes "./")) (read_bytes (percent_decode rest)) None (begins-append (codes "./") rest)
    ∙ ap read_bytes (link_decoded t name fragment) ∙ read_bytes-text (linked t) (linked_utf8 t name fragment) ∙ linked_reads t tidy

title_found : (text : List ℕ) (t : Title) → read_text text ≡ Some t → title_in text ≡ t
unfolding read_text
title_found text t e = (cond_some (is_allowed text && is_good (title_in text)) (title_in text) t e).1

pub links_back : (text : List ℕ) (t : Title) → IsUtf8 text → read_text text ≡ Some t → read_link (link_to t) ≡ Some t
links_back text t is e =
    let found = title_found text t e in
    let texts = title_utf8 text is in
    link_back t (read_tidy text t e) (subst (λ (u : Title). IsUtf8 u.name) found texts.0) (subst (λ (u : Title). IfSome u.fragment IsUtf8) found texts.1)

-- the full name of a title that is read from a text is a text
pub name_is_text : (text : List ℕ) (t : Title) → IsUtf8 text → read_text text ≡ Some t → IsUtf8 (full_name_of t)
name_is_text text t is e = full_utf8 t (subst (λ (u : Title). IsUtf8 u.name) (title_found text t e) (title_utf8 text is).0)

-- ---- full names

some_from_nonempty : (bs : List ℕ) → bs ≢ [] → 0 < length bs
some_from_nonempty [] some = absurd (some refl)
some_from_nonempty (b ∷ bs) some = omega arith

spaced_plain : (bs : List ℕ) → Lacks (is_sign 95) bs → spaced bs ≡ bs
spaced_plain [] l = refl
spaced_plain (b ∷ bs) l = ap (λ t. cond t 32 b ∷ spaced bs) l.0 ∙ ap (λ x. b ∷ x) (spaced_plain bs l.1)

plain_suffix : (fragment : Option (List ℕ)) → IfSome fragment IsTidyFragment → Lacks is_no_fragment_byte (fragment_suffix fragment)
unfolding is_forbidden
plain_suffix None tidy = tt
plain_suffix (Some f) tidy = (refl, lacks_from_any is_no_fragment_byte f tidy.0)

pub text_back : (t : Title) → IsTidy t → read_text (text_of t) ≡ Some t
text_back t tidy =
    let full = full_name_of t in
    let bytes = first_lacks is_no_fragment_byte (is_sign 35) full (whole t tidy).bytes in
    let plain = lacks_append is_no_fragment_byte full (fragment_suffix t.fragment) bytes (plain_suffix t.fragment tidy.fragment) in
    read_written (text_of t) t tidy (spaced_plain (text_of t) (second_lacks is_forbidden (is_sign 95) (text_of t) plain))
    (first_lacks is_forbidden (is_sign 95) (text_of t) plain)

-- the title without its fragment
abbrev pub without : Title → Title
without t = record t { fragment = None }

either_true : (s t u : Bool) → s ≡ true → (s || t) ≡ (s || u)
either_true s t u e = ap (λ x. x || t) e ∙ sym (ap (λ x. x || u) e)

good_without : (t : Title) → 0 < length t.name → is_good t ≡ true → is_good (without t) ≡ true
unfolding is_good full_name_of
good_without t some good =
    ap (λ x. x && is_short t && has_no_colon_first t && not (has_escape t.name) && not (has_signature t.name) && not (is_relative (full_name_of t)))
    (either_true (nat_lt 0 (length t.name)) (nat_eq (length (full_name_of t)) 0 && false)
    (nat_eq (length (full_name_of t)) 0 && is_some_text t.fragment) (lt-ltb 0 (length t.name) some)) ∙ good

tidy_without : (t : Title) → 0 < length t.name → IsTidy t → IsTidy (without t)
tidy_without t some tidy = record {
  bytes = tidy.bytes;
  single = tidy.single;
  ends = tidy.ends;
  first = tidy.first;
  main = tidy.main;
  fragment = tt;
  good = good_without t some tidy.good;
}

name_some : (t : Title) → IsTidy t → full_name_of t ≢ [] → 0 < length t.name
unfolding full_name_of
name_some t tidy full = elim (named_or_main t.ns) [
  | inl main ↦
      let none : prefix_of t.ns ≡ [] = ap prefix_of main ∙ prefix_main in
      some_from_nonempty t.name (λ e. full (ap (λ x. x ++ t.name) none ∙ e))
  | inr prefixed ↦ named_name t prefixed tidy
]

full_without : (t : Title) → text_of (without t) ≡ full_name_of t
unfolding full_name_of
full_without t = append-nil (full_name_of t)

pub full_back : (text : List ℕ) (t : Title) → read_text text ≡ Some t → full_name_of t ≢ [] → read_text (full_name_of t) ≡ Some (record t { fragment = None })
full_back text t e full =
    let tidy = read_tidy text t e in
    ap read_text (sym (full_without t)) ∙ text_back (without t) (tidy_without t (name_some t tidy full) tidy)

pub empty_is_none : read_text [] ≡ None
unfolding read_text is_allowed title_in whole_in cut_namespace is_good full_name_of prefix_of
empty_is_none = refl
