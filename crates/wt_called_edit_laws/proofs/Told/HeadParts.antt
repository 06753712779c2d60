-- The signs of a heading's line: its `=` and blanks, what is between them, blanks and `=`, and what is behind.
use Rattle.std.proofs.Common.{◌≡◌, inl, inr, ℕ, ◌+◌, ◌≤◌, true, false, List, [], ◌∷◌, ◌++◌, length, refl, sym, ap, ◌∙◌, append_assoc}
use Rattle.wt_span.specs.Bytes.{is_blank}
use Rattle.wt_lines.specs.Kinds.{is_idle}
use Rattle.wt_blocks.specs.Headings.{core, level_of, open_len, inside_len}
use Rattle.wt_text_edit_laws.specs.TypedHeadings.{equals, AreBlanks, AreIdle}
use Rattle.wt_text_edit_laws.proofs.Headings.HeadingSigns.{body_signs, round, AreSeen, open_seen, inside_seen}
use Rattle.wt_called_edit_laws.proofs.Told.Signs.{AllPass, StopsLast, cut_back, StopsFirst, cut_front}
use Rattle.wt_called_edit_laws.proofs.Told.HeadLevels.{LevelCut, CoreCut}

pub blanks_are : (bs : List ℕ) → AllPass is_blank bs → AreBlanks bs
blanks_are [] h = tt
blanks_are (b ∷ bs) h = (h.0, blanks_are bs h.1)

pub idle_are : (ss : List ℕ) → AllPass is_idle ss → AreIdle ss
idle_are [] h = tt
idle_are (s ∷ ss) h = (h.0, idle_are ss h.1)

-- ---- what is between them

-- what begins so ends so, or it is blanks alone
pub record MidCut (mid : List ℕ) : Type 0 where
  pub lead : List ℕ
  pub own : List ℕ
  pub trail : List ℕ
  pub is : mid ≡ round lead own trail
  pub lead_blanks : AreBlanks lead
  pub trail_blanks : AreBlanks trail
  pub seen : AreSeen own trail

-- the first sign that isn't blank stays where blanks are cut off behind it
own_cut : (lead : List ℕ) (s : ℕ) (ss own trail : List ℕ) (mid : List ℕ) → mid ≡ lead ++ s ∷ ss → AllPass is_blank lead → is_blank s ≡ false
    → s ∷ ss ≡ own ++ trail → AllPass is_blank trail → StopsLast is_blank own → MidCut mid
own_cut lead s ss [] [] mid is a b e t st = absurd (cc)
own_cut lead s ss [] (r ∷ trail) mid is a b e t st =
    let same : s ≡ r = cc in
    let z : true ≡ false = sym (ap is_blank same ∙ t.0) ∙ b in
    absurd (cc)
own_cut lead s ss (o ∷ own) trail mid is a b e t st =
    let same : s ≡ o = cc in
    record {
      lead = lead;
      own = o ∷ own;
      trail = trail;
      is = is ∙ ap (λ (ts : List ℕ). lead ++ ts) e;
      lead_blanks = blanks_are lead a;
      trail_blanks = blanks_are trail t;
      seen = inl (sym (ap is_blank same) ∙ b, st);
    }

mid_by : (mid lead rest : List ℕ) → mid ≡ lead ++ rest → AllPass is_blank lead → StopsFirst is_blank rest → MidCut mid
mid_by mid lead [] is a st =
    record { lead = lead; own = []; trail = []; is = is; lead_blanks = blanks_are lead a; trail_blanks = tt; seen = inr (refl, refl) }
mid_by mid lead (s ∷ ss) is a st =
    let c = cut_back is_blank (s ∷ ss) in own_cut lead s ss c.front c.back mid is a st c.is c.pass c.stops

mid_cut : (mid : List ℕ) → MidCut mid
mid_cut mid = let c = cut_front is_blank mid in mid_by mid c.front c.rest c.is c.pass c.stops

-- ---- the whole line

-- its parts, and where its delimiters end
pub record LineCut (ss : List ℕ) : Type 0 where
  pub lead : List ℕ
  pub own : List ℕ
  pub trail : List ℕ
  pub idle : List ℕ
  pub is : ss ≡ (equals (level_of (core ss)) ++ lead) ++ (own ++ ((trail ++ equals (level_of (core ss))) ++ idle))
  pub lead_blanks : AreBlanks lead
  pub trail_blanks : AreBlanks trail
  pub idle_signs : AreIdle idle
  pub seen : AreSeen own trail
  pub some : 1 ≤ level_of (core ss)
  pub most : level_of (core ss) ≤ 6
  pub opened : open_len (core ss) ≡ level_of (core ss) + length lead
  pub inside : inside_len (core ss) ≡ length own

pub parts_joined : (n : ℕ) (lead own trail idle : List ℕ)
    → body_signs n (round lead own trail) ++ idle ≡ (equals n ++ lead) ++ (own ++ ((trail ++ equals n) ++ idle))
parts_joined n lead own trail idle =
    let runs : List ℕ = equals n in
    append_assoc runs (round lead own trail ++ runs) idle
    ∙ ap (λ (ts : List ℕ). runs ++ ts) (append_assoc (round lead own trail) runs idle
    ∙ append_assoc lead (own ++ trail) (runs ++ idle)
    ∙ ap (λ (ts : List ℕ). lead ++ ts) (append_assoc own trail (runs ++ idle) ∙ ap (λ (ts : List ℕ). own ++ ts) (sym (append_assoc trail runs idle))))
    ∙ sym (append_assoc runs lead (own ++ ((trail ++ runs) ++ idle)))

line_by : (ss : List ℕ) → CoreCut ss → (mid : List ℕ) → core ss ≡ body_signs (level_of (core ss)) mid → 1 ≤ level_of (core ss)
    → level_of (core ss) ≤ 6 → MidCut mid → LineCut ss
line_by ss c mid is one six m =
    let n : ℕ = level_of (core ss) in
    let own : core ss ≡ body_signs n (round m.lead m.own m.trail) = is ∙ ap (body_signs n) m.is in
    let same : level_of (body_signs n (round m.lead m.own m.trail)) ≡ n = sym (ap level_of own) in
    record {
      lead = m.lead;
      own = m.own;
      trail = m.trail;
      idle = c.idle;
      is = c.is ∙ ap (λ (ts : List ℕ). ts ++ c.idle) own ∙ parts_joined n m.lead m.own m.trail c.idle;
      lead_blanks = m.lead_blanks;
      trail_blanks = m.trail_blanks;
      idle_signs = idle_are c.idle c.pass;
      seen = m.seen;
      some = one;
      most = six;
      opened = ap open_len own ∙ open_seen n m.lead m.own m.trail same m.lead_blanks m.seen;
      inside = ap inside_len own ∙ inside_seen n m.lead m.own m.trail same m.lead_blanks m.trail_blanks m.seen;
    }

pub line_cut : (ss : List ℕ) → CoreCut ss → LineCut ss
line_cut ss c = let l : LevelCut (core ss) = c.cut in line_by ss c l.mid l.is l.some l.most (mid_cut l.mid)
