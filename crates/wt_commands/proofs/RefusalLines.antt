-- The lines that hold more than one number or word, with their parts in a row.
use Rattle.std.proofs.Common.{◌≡◌, ℕ, ◌++◌, List, append_assoc, rules}
use Rattle.std.specs.Prelude.{Some, None, codes}
use Rattle.std.specs.Fmt.{decimal}
use Rattle.wt_html_grammar.specs.declared.why.HtmlWhy.{HtmlWhy}
use Rattle.wt_schema.specs.declared.why.FitWhy.{FitWhy}
use Rattle.wt_commands.specs.declared.refusal.Refusal.TheVariants.{BracesTooDeep, TemplateNotUtf8, TemplateTooLong, Html, Unfit, Unsourced, Checked, BadContent}
use Rattle.wt_checks.specs.declared.refusal.TreeRefusal.{TreeRefusal}
use Rattle.wt_content.specs.declared.reason.ContentWhy.{ContentWhy}
use Rattle.wt_commands.specs.Refusals.{html_why, fit_why, content_why, check_name, check_node, text_of, line_of}

pub html_parts : (place : ℕ) (why : HtmlWhy) → line_of (Html place why) ≡ codes "wtround: html refused at "
    ++ (decimal place ++ (codes ": " ++ (html_why why ++ codes "\n")))
unfolding line_of text_of
html_parts place why = search (rules, append_assoc)

pub unfit_parts : (n : ℕ) (why : FitWhy) → line_of (Unfit n why) ≡ codes "wtround: element "
    ++ (decimal n ++ (codes " does not fit: " ++ (fit_why why ++ codes "\n")))
unfolding line_of text_of
unfit_parts n why = search (rules, append_assoc)

pub unsourced_parts : (n : ℕ) → line_of (Unsourced n) ≡ codes "wtround: element " ++ (decimal n ++ codes " has no source\n")
unfolding line_of text_of
unsourced_parts n = search (rules, append_assoc)

pub own_braces_parts : (place : ℕ) → line_of (BracesTooDeep None place) ≡ codes "wtround: braces too deep at " ++ (decimal place ++ codes "\n")
unfolding line_of text_of
own_braces_parts place = search (rules, append_assoc)

pub braces_parts : (template : List ℕ) (place : ℕ) → line_of (BracesTooDeep (Some template) place)
    ≡ codes "wtround: braces too deep at " ++ (decimal place ++ (codes " in " ++ (template ++ codes "\n")))
unfolding line_of text_of
braces_parts template place = search (rules, append_assoc)

pub not_utf8_parts : (template : List ℕ) (place : ℕ) → line_of (TemplateNotUtf8 template place)
    ≡ codes "wtround: " ++ (template ++ (codes " not UTF-8 at " ++ (decimal place ++ codes "\n")))
unfolding line_of text_of
not_utf8_parts template place = search (rules, append_assoc)

pub too_long_parts : (template : List ℕ) → line_of (TemplateTooLong template) ≡ codes "wtround: " ++ (template ++ codes " too long\n")
unfolding line_of text_of
too_long_parts template = search (rules, append_assoc)

pub checked_parts : (c : TreeRefusal) → line_of (Checked c) ≡ codes "wtround: edit refused: "
    ++ (check_name c ++ (codes " " ++ (decimal (check_node c) ++ codes "\n")))
unfolding line_of text_of
checked_parts c = search (rules, append_assoc)

pub content_parts : (n : ℕ) (why : ContentWhy) → line_of (BadContent n why) ≡ codes "wtround: edit refused: BadContent "
    ++ (decimal n ++ (codes " " ++ (content_why why ++ codes "\n")))
unfolding line_of text_of
content_parts n why = search (rules, append_assoc)
