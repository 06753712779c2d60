-- How the code finds the answer to an edit, step by step.
use Rattle.std.proofs.Common.{arith, ◌≡◌, ◌<◌, ◌≤◌, ℕ, ◌+◌, Bool, true, false, List, [], ◌∷◌, ◌++◌, length, drop, get_or, refl, sym, ap, ◌∙◌, subst}
use Rattle.std.specs.Prelude.{Option, Some, None, option_map, Result, Ok, Err, nat_lt, ◌||◌, ◌&&◌, if◌then◌else◌}
use Rattle.std.specs.List.{flat_map}
use Rattle.std.proofs.lemmas.Bool.Decides.{nat_tests}
use Rattle.std.proofs.lemmas.Grind.{flat_map-append}
use Rattle.std.proofs.lemmas.List.{drop_more}
use Rattle.wt_tree.specs.declared.kind.Mark.{Mark}
use Rattle.wt_tree.specs.declared.kind.Mark.TheVariants as marks
use Rattle.wt_tree.specs.declared.node.Node.{Node, out-Node}
use Rattle.wt_span.specs.Origins.{Expanded}
use Rattle.wt_tree.specs.Opened.{opened}
use Rattle.wt_tree.specs.Tree.{Tree, tree, Trees, none, more, label}
use Rattle.wt_tree.specs.View.{label_of, view, views}
use Rattle.wt_tree.proofs.Views.{view_out}
use Rattle.wt_checks.specs.declared.refusal.TreeRefusal.{TreeRefusal}
use Rattle.wt_checks.specs.Checked.{checked}
use Rattle.wt_checks.specs.Groups.{is_marked, has_mark, have_mark}
use Rattle.wt_checks.specs.Kept.{children}
use Rattle.wt_checks.specs.Marks.{is_children}
use Rattle.wt_checks.specs.Places.{Place, placed, all_placed, parent_below, places, number, Page, page_of, is_content}
use Rattle.wt_slices.specs.declared.change.Pair.{Pair as Found}
use Rattle.wt_content.specs.declared.reason.ContentWhy.{ContentWhy}
use Rattle.wt_selser.specs.declared.refusal.EditRefusal.{EditRefusal}
use Rattle.wt_selser.specs.declared.refusal.EditRefusal.TheVariants as refusal
use Rattle.wt_slices.specs.BodySlices.{all_child_slices, body_slices, child_slices, list_at, slices, start}
use Rattle.wt_slices.specs.Changes.{Pair, all_insides, inside_of, insides, marked, pair_at, pair_with}
use Rattle.wt_content.specs.declared.children.Holder.TheVariants as holder
use Rattle.wt_content.specs.Children.{bad_children}
use Rattle.wt_content.specs.Content.{bad_content}
use Rattle.wt_selser.specs.Edits.{first_with, first_of, bad_pair, is_tangled, tangled_pair, most_bytes, if_short, unless_refused, pairs_answer, edit_answer, why_bad, AnswersEdit}
use Rattle.wt_selser.specs.GroupFaults.{has_faulty_group}
use Rattle.wt_isolation.specs.OpenTags.{before, touches_open_tag}
use Rattle.wt_isolation.specs.TextCalls.{touches_text_call}
use Rattle.wt_slices.specs.Steps.{steps}
use Rattle.wt_slices.specs.Views.{pair_of, pairs_of}
use Rattle.wt_selser.proofs.Outside.{nothing_changes}

id_seen : (n : Node) → (label (view n)).id ≡ (out-Node n).id
id_seen n = rw (view_out n)

-- ---- one pair

mark_seen : (n : Node) → (label (view n)).mark ≡ (out-Node n).more.mark
mark_seen n = rw (view_out n)

pub why_children : (same : Tree → Tree → Bool) (p : Found) (b : Bool) (o : Option ContentWhy) → b ≡ is_children (out-Node p.new.now).more.mark → b ≡ true
    → o ≡ bad_children same (view p.new.now) → o ≡ why_bad same (pair_of p)
why_children same p b o e t is =
    is ∙ ap (λ c. if c then bad_children same (view p.new.now) else bad_content same (view p.old.now) (view p.new.now))
    (sym t ∙ e ∙ ap is_children (sym (mark_seen p.new.now)))

pub why_content : (same : Tree → Tree → Bool) (p : Found) (b : Bool) (o : Option ContentWhy) → b ≡ is_children (out-Node p.new.now).more.mark → b ≡ false
    → o ≡ bad_content same (view p.old.now) (view p.new.now) → o ≡ why_bad same (pair_of p)
why_content same p b o e t is =
    is ∙ ap (λ c. if c then bad_children same (view p.new.now) else bad_content same (view p.old.now) (view p.new.now))
    (sym t ∙ e ∙ ap is_children (sym (mark_seen p.new.now)))

pub bad_some : (same : Tree → Tree → Bool) (p : Found) (why : ContentWhy) (o : Option ContentWhy) → o ≡ why_bad same (pair_of p)
    → o ≡ Some why → Some (refusal.BadContent (out-Node p.new.now).id why) ≡ bad_pair same (pair_of p)
bad_some same p why o e is =
    ap (λ n. Some (refusal.BadContent n why)) (sym (id_seen p.new.now)) ∙ ap (option_map (refusal.BadContent (label (view p.new.now)).id)) (sym is ∙ e)

pub bad_none : (same : Tree → Tree → Bool) (p : Found) (o : Option ContentWhy) → o ≡ why_bad same (pair_of p)
    → o ≡ None → None ≡ bad_pair same (pair_of p)
bad_none same p o e is = ap (option_map (refusal.BadContent (label (view p.new.now)).id)) (sym is ∙ e)

-- a block of the page that can't be read by itself, one level of its tree
tangled_out : (items : Expanded) (page : List ℕ) (n : Node) → is_tangled items page (view n)
    ≡ (touches_text_call items.text_calls (out-Node n).ranges
    || (touches_open_tag (before page (out-Node n).ranges) (view n) || has_faulty_group items (views (out-Node n).children)))
tangled_out items page n =
    let l = label_of (out-Node n) in
    let ts = views (out-Node n).children in
    ap (is_tangled items page) (view_out n)
    ∙ ap (λ t. touches_text_call items.text_calls l.ranges || (touches_open_tag (before page l.ranges) t || has_faulty_group items ts)) (sym (view_out n))

or_first : (a b : Bool) → a ≡ true → true ≡ (a || b)
or_first a b e = sym (ap (λ c. c || b) e)

or_joined : (a b c : Bool) → ((a || b) || c) ≡ (a || (b || c))
or_joined true b c = refl
or_joined false b c = refl

pub touches_any : (items : Expanded) (page : List ℕ) (n : Node) (b : Bool)
    → b ≡ (touches_text_call items.text_calls (out-Node n).ranges || touches_open_tag (before page (out-Node n).ranges) (view n)) → b ≡ true
    → true ≡ is_tangled items page (view n)
touches_any items page n b e t =
    let call = touches_text_call items.text_calls (out-Node n).ranges in
    let tag = touches_open_tag (before page (out-Node n).ranges) (view n) in
    let rest = has_faulty_group items (views (out-Node n).children) in
    or_first (call || tag) rest (sym e ∙ t) ∙ or_joined call tag rest ∙ sym (tangled_out items page n)

-- of a content that is tangled or isn't, by the two tests
tangled_by : (items : Expanded) (page : List ℕ) (p : Found) (m b : Bool) → m ≡ is_content (out-Node p.new.now).more.mark → b ≡ is_tangled items page (view p.old.now)
    → (if m && b then Some (refusal.Tangled (label (view p.new.now)).id) else None) ≡ tangled_pair items page (pair_of p)
tangled_by items page p m b d e =
    ap (λ c. if c && b then Some (refusal.Tangled (label (view p.new.now)).id) else None) (d ∙ ap is_content (sym (mark_seen p.new.now)))
    ∙ ap (λ c. if is_content (label (view p.new.now)).mark && c then Some (refusal.Tangled (label (view p.new.now)).id) else None) e

pub tangled_some : (items : Expanded) (page : List ℕ) (p : Found) (m b : Bool) → m ≡ is_content (out-Node p.new.now).more.mark → m ≡ true
    → b ≡ is_tangled items page (view p.old.now) → b ≡ true → Some (refusal.Tangled (out-Node p.new.now).id) ≡ tangled_pair items page (pair_of p)
tangled_some items page p m b d i e t =
    ap (λ n. Some (refusal.Tangled n)) (sym (id_seen p.new.now))
    ∙ ap (λ c. if c && true then Some (refusal.Tangled (label (view p.new.now)).id) else None) (sym i)
    ∙ ap (λ c. if m && c then Some (refusal.Tangled (label (view p.new.now)).id) else None) (sym t) ∙ tangled_by items page p m b d e

pub tangled_none : (items : Expanded) (page : List ℕ) (p : Found) (m b : Bool) → m ≡ is_content (out-Node p.new.now).more.mark → m ≡ true
    → b ≡ is_tangled items page (view p.old.now) → b ≡ false → None ≡ tangled_pair items page (pair_of p)
tangled_none items page p m b d i e t =
    ap (λ c. if c && false then Some (refusal.Tangled (label (view p.new.now)).id) else None) (sym i)
    ∙ ap (λ c. if m && c then Some (refusal.Tangled (label (view p.new.now)).id) else None) (sym t) ∙ tangled_by items page p m b d e

pub no_content : (items : Expanded) (page : List ℕ) (p : Found) (m : Bool) → m ≡ is_content (out-Node p.new.now).more.mark → m ≡ false
    → None ≡ tangled_pair items page (pair_of p)
no_content items page p m d i =
    ap (λ c. if c && is_tangled items page (view p.old.now) then Some (refusal.Tangled (label (view p.new.now)).id) else None) (sym i)
    ∙ tangled_by items page p m (is_tangled items page (view p.old.now)) d refl

-- ---- the first of all pairs

pub first_turn : (f : Pair → Option EditRefusal) (ps : List Found) (i : ℕ) (p : Found) → i < length ps → p ≡ get_or ps i p
    → first_of f (pairs_of (drop i ps)) ≡ first_with (f (pair_of p)) (first_of f (pairs_of (drop (i + 1) ps)))
first_turn f ps i p lt is =
    ap (λ (xs : List Found). first_of f (pairs_of xs)) (drop_more ps i p lt ∙ ap (λ (x : Found). x ∷ drop (i + 1) ps) (sym is))

pub found_here : (f : Pair → Option EditRefusal) (ps : List Found) (i : ℕ) (p : Found) (o : Option EditRefusal) (r : EditRefusal)
    → first_of f (pairs_of ps) ≡ first_of f (pairs_of (drop i ps)) → i < length ps → p ≡ get_or ps i p → o ≡ f (pair_of p) → o ≡ Some r
    → Some r ≡ first_of f (pairs_of ps)
found_here f ps i p o r inv lt is e s =
    sym (inv ∙ first_turn f ps i p lt is ∙ ap (λ x. first_with x (first_of f (pairs_of (drop (i + 1) ps)))) (sym e ∙ s))

pub found_later : (f : Pair → Option EditRefusal) (ps : List Found) (i : ℕ) (p : Found) (o : Option EditRefusal)
    → first_of f (pairs_of ps) ≡ first_of f (pairs_of (drop i ps)) → i < length ps → p ≡ get_or ps i p → o ≡ f (pair_of p) → o ≡ None
    → first_of f (pairs_of ps) ≡ first_of f (pairs_of (drop (i + 1) ps))
found_later f ps i p o inv lt is e s =
    inv ∙ first_turn f ps i p lt is ∙ ap (λ x. first_with x (first_of f (pairs_of (drop (i + 1) ps)))) (sym e ∙ s)

pub first_some : (a b o : Option EditRefusal) (r : EditRefusal) → o ≡ a → o ≡ Some r → Some r ≡ first_with a b
first_some a b o r e s = ap (λ x. first_with x b) (sym s ∙ e)

pub first_none : (a b o x : Option EditRefusal) → o ≡ a → o ≡ None → x ≡ b → x ≡ first_with a b
first_none a b o x e s d = d ∙ ap (λ y. first_with y b) (sym s ∙ e)

-- ---- the answer

pub refused_by : (a : Result (List ℕ) EditRefusal) (e : EditRefusal) → a ≡ Err e → AnswersEdit a (Err e)
refused_by a (refusal.Check c) h = h
refused_by a (refusal.BadContent n w) h = h
refused_by a (refusal.Tangled n) h = h
refused_by a refusal.NewPageTooLong h = h
refused_by a refusal.NoMemory h = tt

pub no_memory : (a : Result (List ℕ) EditRefusal) (e : EditRefusal) → e ≡ refusal.NoMemory → AnswersEdit a (Err e)
no_memory a e is = subst (λ (x : EditRefusal). AnswersEdit a (Err x)) (sym is) tt

pub pairs_refused : (a o : Option EditRefusal) (new : Result (List ℕ) EditRefusal) (e : EditRefusal) → o ≡ a → o ≡ Some e → unless_refused a new ≡ Err e
pairs_refused a o new e d s = ap (λ x. unless_refused x new) (sym d ∙ s)

pub pairs_stand : (a o : Option EditRefusal) (new r : Result (List ℕ) EditRefusal) → o ≡ a → o ≡ None → AnswersEdit new r → AnswersEdit (unless_refused a new) r
pairs_stand a o new r d s h = subst (λ x. AnswersEdit (unless_refused x new) r) (sym s ∙ d) h

long_by : (b : Bool) (new : List ℕ) → b ≡ true → (if b then Err refusal.NewPageTooLong else Ok new) ≡ Err refusal.NewPageTooLong
long_by true new e = refl
long_by false new e = absurd (cc)

short_by : (b : Bool) (new : List ℕ) → b ≡ false → (if b then Err refusal.NewPageTooLong else Ok new) ≡ Ok new
short_by true new e = absurd (cc)
short_by false new e = refl

pub new_too_long : (new : List ℕ) → nat_lt most_bytes (length new) ≡ true → if_short new ≡ Err refusal.NewPageTooLong
new_too_long new t = long_by (nat_lt most_bytes (length new)) new t

pub new_stands : (new : List ℕ) → nat_lt most_bytes (length new) ≡ false → if_short new ≡ Ok new
new_stands new t = short_by (nat_lt most_bytes (length new)) new t

pub checked_answer : (same : Tree → Tree → Bool) (items : Expanded) (page : List ℕ) (t u : Tree) (o : Option TreeRefusal) (c : TreeRefusal) → o ≡ checked false t u → o ≡ Some c
    → edit_answer same items page t u ≡ Err (refusal.Check c)
unfolding edit_answer
checked_answer same items page t u o c d s =
    ap (λ x. unless_refused (option_map refusal.Check x) (pairs_answer same items page (marked t u) (slices same t u))) (sym d ∙ s)

pub unchecked_answer : (same : Tree → Tree → Bool) (items : Expanded) (page : List ℕ) (t u : Tree) (o : Option TreeRefusal) → o ≡ checked false t u → o ≡ None
    → pairs_answer same items page (marked t u) (slices same t u) ≡ edit_answer same items page t u
unfolding edit_answer
unchecked_answer same items page t u o d s =
    ap (λ x. unless_refused (option_map refusal.Check x) (pairs_answer same items page (marked t u) (slices same t u))) (sym s ∙ d)

-- the marked nodes and the slices, by what the index of the page's nodes has for a number
pub pairs_known : (page look : Page) (u : Tree) (ps : List Pair) → look ≡ page → ps ≡ flat_map (pair_at look) (places u) → ps ≡ flat_map (pair_at page) (places u)
pairs_known page look u ps e is = is ∙ ap (λ (p : Page). flat_map (pair_at p) (places u)) e

-- ---- nothing is marked

not_longer : (most n : ℕ) → n ≤ most → nat_lt most n ≡ false
not_longer most n le = grind (arith, nat_tests)

no_mark : (m : Mark) → is_marked m ≡ false → (is_content m ≡ false) × (is_children m ≡ false)
no_mark marks.Nothing e = (refl, refl)
no_mark m e = absurd (cc)

or_none : (a b : Bool) → (a || b) ≡ false → (a ≡ false) × (b ≡ false)
or_none true b e = absurd (cc)
or_none false b e = (refl, e)

no_pair : (page : Page) (p : Place) → is_marked (label p.node).mark ≡ false → pair_at page p ≡ []
no_pair page p e =
    let n = no_mark (label p.node).mark e in
    ap (λ b. if b then pair_with (page (number p)) p.node else [])
    (ap (λ b. b || is_children (label p.node).mark) n.0 ∙ n.1)

mutual
  no_pairs : (page : Page) (m : ℕ) (w : Bool) (u : Tree) → has_mark u ≡ false → flat_map (pair_at page) (placed m w u) ≡ []
  no_pairs page m w (tree l us) e =
      let n = or_none (is_marked l.mark) (have_mark us) e in
      ap (λ ps. ps ++ flat_map (pair_at page) (all_placed (parent_below m l.id) (w || is_content l.mark) us))
      (no_pair page (record { node = tree l us; parent = m; in_content = w }) n.0)
      ∙ all_no_pairs page (parent_below m l.id) (w || is_content l.mark) us n.1

  all_no_pairs : (page : Page) (m : ℕ) (w : Bool) (us : Trees) → have_mark us ≡ false → flat_map (pair_at page) (all_placed m w us) ≡ []
  all_no_pairs page m w none e = refl
  all_no_pairs page m w (more u us) e =
      let n = or_none (has_mark u) (have_mark us) e in
      flat_map-append (pair_at page) (placed m w u) (all_placed m w us)
      ∙ ap (λ ps. ps ++ flat_map (pair_at page) (all_placed m w us)) (no_pairs page m w u n.0) ∙ all_no_pairs page m w us n.1

mutual
  no_insides : (same : Tree → Tree → Bool) (page : Page) (u : Tree) → has_mark u ≡ false → insides same page u ≡ []
  no_insides same page (tree l us) e =
      let n = or_none (is_marked l.mark) (have_mark us) e in
      ap (λ b. if b then inside_of same (page l.id) (tree l us) else all_insides same page us) (no_mark l.mark n.0).0 ∙ all_no_insides same page us n.1

  all_no_insides : (same : Tree → Tree → Bool) (page : Page) (us : Trees) → have_mark us ≡ false → all_insides same page us ≡ []
  all_no_insides same page none e = refl
  all_no_insides same page (more u us) e =
      let n = or_none (has_mark u) (have_mark us) e in
      ap (λ cs. cs ++ all_insides same page us) (no_insides same page u n.0) ∙ all_no_insides same page us n.1

no_child : (same : Tree → Tree → Bool) (page : Page) (u : Tree) → has_mark u ≡ false → child_slices same page u ≡ []
no_child same page (tree l us) e =
    let n = or_none (is_marked l.mark) (have_mark us) e in
    ap (λ b. if b then list_at same page (page l.id) us else insides same page (tree l us)) (no_mark l.mark n.0).1 ∙ no_insides same page (tree l us) e

no_children : (same : Tree → Tree → Bool) (page : Page) (us : Trees) → have_mark us ≡ false → all_child_slices same page us ≡ []
no_children same page none e = refl
no_children same page (more u us) e =
    let n = or_none (has_mark u) (have_mark us) e in
    ap (λ cs. cs ++ all_child_slices same page us) (no_child same page u n.0) ∙ no_children same page us n.1

no_slices : (same : Tree → Tree → Bool) (t u : Tree) → has_mark u ≡ false → slices same t u ≡ []
no_slices same t (tree l us) e =
    let n = or_none (is_marked l.mark) (have_mark us) e in
    ap (λ b. if b then body_slices same (page_of t) start (steps holder.Body (opened (children t)) us) else all_child_slices same (page_of t) us) (no_mark l.mark n.0).1
    ∙ no_children same (page_of t) us n.1

pub unmarked_stands : (same : Tree → Tree → Bool) (items : Expanded) (page : List ℕ) (t u : Tree) → has_mark u ≡ false → checked false t u ≡ None
    → length page ≤ most_bytes → edit_answer same items page t u ≡ Ok page
unfolding edit_answer
unmarked_stands same items page t u m c le =
    ap (λ x. unless_refused (option_map refusal.Check x) (pairs_answer same items page (marked t u) (slices same t u))) c
    ∙ ap (λ ps. pairs_answer same items page ps (slices same t u)) (no_pairs (page_of t) 0 false u m)
    ∙ ap (λ cs. pairs_answer same items page [] cs) (no_slices same t u m)
    ∙ ap if_short (nothing_changes page) ∙ short_by (nat_lt most_bytes (length page)) page (not_longer most_bytes (length page) le)
