-- The machine refuses no byte for the end of the input.
use Rattle.std.proofs.Common.{◌≡◌, ℕ, Option, Some, None, Result, Ok, Err, List, [], ◌∷◌, subst, nat_lt, length}
use Rattle.std.specs.Prelude.{◌==◌}
use Rattle.std.specs.Char.{to_ascii_lowercase}
use Rattle.wt_html_grammar.specs.declared.why.HtmlWhy.{HtmlWhy}
use Rattle.wt_html_grammar.specs.declared.why.HtmlWhy.TheVariants as why
use Rattle.wt_html_grammar.specs.Signs.{Follow, follow, is_among, is_space, is_void, is_lower, is_name_byte, is_attribute_byte, is_quote, in_text, in_value, begins_character}
use Rattle.wt_html_grammar.specs.Machine.{State, start, first, doctype, inside, less, naming, gap, attribute, named_so, equals, value, valued, slashed, closing, closed, escaping, Escape, ampersand, apart, letters, sharp, digits, wide, EscapeStep, stop, on, ended, Tag, is_plain, begins, special, turned, why_of, in_escape, end_tag, at_end, at_open, at_name, with_seen, in_contents, in_doctype, mended, step, onward, run}
use Rattle.wt_html_grammar.proofs.Steps.{if_case}

abbrev pub NotEnd : HtmlWhy → Type 0
NotEnd w = w ≡ why.End → ⊥

abbrev pub GoesOn : Result State HtmlWhy → Type 0
GoesOn (Ok s) = Unit {0}
GoesOn (Err w) = NotEnd w

syntax_not : NotEnd why.Syntax
syntax_not e = cc

utf8_not : NotEnd why.NotUtf8
utf8_not e = cc

deep_not : NotEnd why.TooDeep
deep_not e = cc

tag_not : NotEnd why.EndTag
tag_not e = cc

repeated_not : NotEnd why.Repeated
repeated_not e = cc

escape_not : NotEnd why.Escape
escape_not e = cc

why_not : (e : Escape) → NotEnd (why_of e)
why_not ampersand = escape_not
why_not apart = escape_not
why_not (letters n cs) = escape_not
why_not sharp = escape_not
why_not (digits r k n) = escape_not
why_not (wide low high n) = utf8_not

turned_not : (s : State) (e : Escape) (t : EscapeStep) → GoesOn (turned s e t)
turned_not s e stop = why_not e
turned_not s e (on f) = tt
turned_not s e ended = tt

begins_not : (s : State) (o : Option Follow) → GoesOn (begins s o)
begins_not s None = utf8_not
begins_not s (Some f) = tt

special_not : (s : State) (b : ℕ) → GoesOn (special s b)
special_not s b = if_case GoesOn (b == 38) _ _ (λ _. tt) (λ _. begins_not s (follow b))

at_end_not : (ns : List (List ℕ)) (b : ℕ) → GoesOn (at_end ns b)
at_end_not ns b = if_case GoesOn (is_space b) _ _ (λ _. tt) (λ _. if_case GoesOn (b == 62) _ _ (λ _. tt) (λ _. syntax_not))

at_open_not : (t : Tag) (b : ℕ) → GoesOn (at_open t b)
at_open_not t b =
    if_case GoesOn (is_space b) _ _ (λ _. tt) (λ _. if_case GoesOn (b == 62) _ _ (λ _. tt) (λ _. if_case GoesOn (b == 47) _ _
    (λ _. if_case GoesOn (is_void t.name) _ _ (λ _. tt) (λ _. syntax_not)) (λ _. syntax_not)))

at_name_not : (t : Tag) (b : ℕ) → GoesOn (at_name t b)
at_name_not t b = if_case GoesOn (is_space b) _ _ (λ _. tt) (λ _. if_case GoesOn (b == 61) _ _ (λ _. tt) (λ _. syntax_not))

end_tag_not : (ns : List (List ℕ)) → GoesOn (end_tag ns)
end_tag_not [] = syntax_not
end_tag_not (n ∷ ns) = tt

doctype_not : (cs : List ℕ) (b : ℕ) → GoesOn (in_doctype cs b)
doctype_not [] b = if_case GoesOn (is_space b) _ _ (λ _. tt) (λ _. if_case GoesOn (b == 60) _ _ (λ _. tt) (λ _. syntax_not))
doctype_not (c ∷ cs) b = if_case GoesOn (to_ascii_lowercase b == c) _ _ (λ _. tt) (λ _. syntax_not)

contents_not : (ns : List (List ℕ)) (b : ℕ) → GoesOn (in_contents ns b)
contents_not ns b = if_case GoesOn (is_plain in_text b) _ _ (λ _. tt) (λ _. if_case GoesOn (b == 60) _ _ (λ _. tt) (λ _. special_not (inside ns) b))

step_not : (s : State) (b : ℕ) → GoesOn (step s b)
step_not start b = if_case GoesOn (is_space b) _ _ (λ _. tt) (λ _. if_case GoesOn (b == 60) _ _ (λ _. tt) (λ _. syntax_not))
step_not first b = if_case GoesOn (is_lower b) _ _ (λ _. tt) (λ _. if_case GoesOn (b == 33) _ _ (λ _. tt) (λ _. syntax_not))
step_not (doctype cs) b = doctype_not cs b
step_not (inside []) b = if_case GoesOn (is_space b) _ _ (λ _. tt) (λ _. syntax_not)
step_not (inside (n ∷ ns)) b = contents_not (n ∷ ns) b
step_not (less ns) b =
    if_case GoesOn (is_lower b) _ _ (λ _. if_case GoesOn (nat_lt (length ns) 200) _ _ (λ _. tt) (λ _. deep_not))
    (λ _. if_case GoesOn (b == 47) _ _ (λ _. end_tag_not ns) (λ _. syntax_not))
step_not (naming ns n) b = if_case GoesOn (is_name_byte b) _ _ (λ _. tt) (λ _. at_open_not (record { outer = ns; name = n; seen = [] }) b)
step_not (gap t) b = if_case GoesOn (is_attribute_byte b) _ _ (λ _. tt) (λ _. at_open_not t b)
step_not (attribute t a) b =
    if_case GoesOn (is_attribute_byte b) _ _ (λ _. tt)
    (λ _. if_case GoesOn (is_among a t.seen) _ _ (λ _. repeated_not) (λ _. at_name_not (with_seen t a) b))
step_not (named_so t) b = at_name_not t b
step_not (equals t) b = if_case GoesOn (is_quote b) _ _ (λ _. tt) (λ _. if_case GoesOn (is_space b) _ _ (λ _. tt) (λ _. syntax_not))
step_not (value t q) b =
    if_case GoesOn (is_plain (in_value q) b) _ _ (λ _. tt) (λ _. if_case GoesOn (b == q) _ _ (λ _. tt) (λ _. special_not (value t q) b))
step_not (valued t) b = at_open_not t b
step_not (slashed t) b = if_case GoesOn (b == 62) _ _ (λ _. tt) (λ _. syntax_not)
step_not (closing [] ns) b = if_case GoesOn (is_name_byte b) _ _ (λ _. tag_not) (λ _. at_end_not ns b)
step_not (closing (c ∷ cs) ns) b = if_case GoesOn (b == c) _ _ (λ _. tt) (λ _. tag_not)
step_not (closed ns) b = at_end_not ns b
step_not (escaping s e) b = turned_not s e (in_escape e b)

mended_not : (b : ℕ) (o : Result State HtmlWhy) → GoesOn o → GoesOn (mended b o)
mended_not b (Ok s) h = tt
mended_not b (Err w) h = if_case GoesOn (begins_character b) (Err w) (Err why.NotUtf8) (λ _. h) (λ _. utf8_not)

run_on : (bs : List ℕ) (o : Result State HtmlWhy) → ((s : State) → GoesOn (run s bs)) → GoesOn o → GoesOn (onward (λ t. run t bs) o)
run_on bs (Ok s) f h = f s
run_on bs (Err w) f h = h

run_not : (bs : List ℕ) (s : State) → GoesOn (run s bs)
run_not [] s = tt
run_not (b ∷ bs) s = run_on bs (mended b (step s b)) (run_not bs) (mended_not b (step s b) (step_not s b))

pub never_end : (bytes : List ℕ) (w : HtmlWhy) → run start bytes ≡ Err w → NotEnd w
never_end bytes w e = let P : Result State HtmlWhy → Type 0 = GoesOn in subst P e (run_not bytes start)
