-- The definitions at cases whose answers are known, by computing.
use Rattle.std.proofs.Common.{◌≡◌, ℕ, List, [], ◌∷◌, ◌++◌, Option, Some, None, refl, codes}
use Rattle.std.specs.Str.{is_utf8, chars}
use Rattle.std.proofs.Math.Utf8.{encode}
use Rattle.percent_encoding.specs.Percent.{percent_encode_byte, percent_decode}
use Rattle.wt_names.specs.declared.namespace.Ns.{Ns}
use Rattle.wt_names.specs.declared.namespace.Ns.TheVariants.{Main, Category}
use Rattle.wt_names.specs.declared.title.Title.{Title}
use Rattle.wt_names.specs.Namespace.{name_of, image, is_called, namespace_named, prefix_of, full_name_of}
use Rattle.wt_names.specs.Reading.{whole_in, cut_namespace, title_in}
use Rattle.wt_names.specs.Good.{is_forbidden, is_allowed, has_signature, is_step, begins_with_step, holds_step, ends_with_step, is_good, read_text}
use Rattle.wt_names.specs.Written.{stays_in_link, stays_in_file, link_text, link_to, file_of, read_link}

title : Ns → List ℕ → Option (List ℕ) → Option Title
title ns name fragment = Some (record { ns = ns; name = name; fragment = fragment })

spaces : read_text (codes "foo_bar") ≡ title Main (codes "Foo bar") None
unfolding title read_text is_allowed is_forbidden title_in whole_in cut_namespace namespace_named is_called is_good full_name_of
    prefix_of has_signature is_step begins_with_step holds_step ends_with_step
spaces = refl

namespace : read_text (codes "category: rivers#A") ≡ title Category (codes "Rivers") (Some (codes "A"))
unfolding title read_text is_allowed is_forbidden title_in whole_in cut_namespace namespace_named is_called name_of image is_good
    full_name_of prefix_of has_signature is_step begins_with_step holds_step ends_with_step
namespace = refl

bracket : read_text (codes "a[b") ≡ None
unfolding read_text is_allowed is_forbidden
bracket = refl

-- an empty fragment is one, and one keeps its runs of spaces
empty_fragment : read_text (codes "a#") ≡ title Main (codes "A") (Some [])
unfolding title read_text is_allowed is_forbidden title_in whole_in cut_namespace namespace_named is_called is_good full_name_of
    prefix_of has_signature is_step begins_with_step holds_step ends_with_step
empty_fragment = refl

spaced_fragment : link_to (title_in (codes "a#b  c")) ≡ codes "./A#b__c"
unfolding link_to link_text stays_in_link title_in whole_in cut_namespace full_name_of prefix_of
spaced_fragment = refl

-- a fragment alone, with a space before it
fragment_alone : read_link (codes "./_#x") ≡ title Main [] (Some (codes "x"))
unfolding read_link percent_decode is_utf8 chars encode title read_text is_allowed is_forbidden title_in whole_in cut_namespace
    is_good full_name_of prefix_of has_signature is_step begins_with_step holds_step ends_with_step
fragment_alone = refl

namespace_and_fragment : read_text (codes "talk:#x") ≡ None
unfolding read_text is_allowed is_forbidden title_in whole_in cut_namespace namespace_named is_called name_of image is_good full_name_of prefix_of
namespace_and_fragment = refl

steps : read_text (codes "a/./b") ≡ None
unfolding read_text is_allowed is_forbidden title_in whole_in cut_namespace is_good full_name_of prefix_of has_signature is_step
    begins_with_step holds_step ends_with_step
steps = refl

file : file_of (codes "Template:Foo bar") ≡ codes "Template%3AFoo_bar.wiki"
unfolding file_of stays_in_file percent_encode_byte
file = refl

-- the bytes of the letter that is escaped here are 195 and 169
escape : read_link (codes "./Caf%C3%A9") ≡ title Main (codes "Caf" ++ 195 ∷ 169 ∷ []) None
unfolding read_link percent_decode is_utf8 chars encode title read_text is_allowed is_forbidden title_in whole_in cut_namespace
    is_good full_name_of prefix_of has_signature is_step begins_with_step holds_step ends_with_step
escape = refl

no_link : read_link (codes "Oder") ≡ None
unfolding read_link
no_link = refl

unescaped : read_link (codes "./100%") ≡ title Main (codes "100%") None
unfolding read_link percent_decode is_utf8 chars encode title read_text is_allowed is_forbidden title_in whole_in cut_namespace
    is_good full_name_of prefix_of has_signature is_step begins_with_step holds_step ends_with_step
unescaped = refl
