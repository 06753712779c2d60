-- What is found at one node, as the code takes it part by part.
use Rattle.std.specs.Prelude.{ℕ, Bool, false, not, ◌++◌, List}
use Rattle.wt_annotated.specs.Slices.{slice}
use Rattle.wt_tree.specs.declared.kind.Ranges.{Ranges}
use Rattle.wt_lint.specs.declared.finding.Kind.TheVariants.{OpenTag, StrayTag, OpenBraces, StrayBraces, OpenLink, StrayLinkEnd}
use Rattle.wt_lint.specs.Findings.{whole}
use Rattle.wt_lint.specs.Found.{KindAndRange, as_all}
use Rattle.wt_lint.specs.Tags.{is_open_tag, is_closing_tag}
use Rattle.wt_lint.specs.Texts.{when, runs, pairs}

-- the braces and brackets of a text
abbrev pub sign_findings : List ℕ → Bool → Ranges → List KindAndRange
sign_findings page in_nowiki r =
    as_all OpenBraces (when (not in_nowiki) (runs 123 r.start false (slice page r.start r.end)))
    ++ (as_all StrayBraces (when (not in_nowiki) (runs 125 r.start false (slice page r.start r.end)))
    ++ (as_all OpenLink (when (not in_nowiki) (pairs 91 r.start (slice page r.start r.end)))
    ++ as_all StrayLinkEnd (when (not in_nowiki) (pairs 93 r.start (slice page r.start r.end)))))

-- a tag that is alone
abbrev pub tag_findings : List ℕ → Ranges → List KindAndRange
tag_findings page r =
    as_all OpenTag (whole (is_open_tag (slice page r.start r.end)) r)
    ++ as_all StrayTag (whole (is_closing_tag (slice page r.start r.end)) r)
