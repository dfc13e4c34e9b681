-- Answering line by line.
use Rattle.std.proofs.Common.{◌≡◌, ◌≢◌, ℕ, zero, suc, true, false, ◌+◌, ◌<◌, ◌≤◌, List, [], ◌∷◌, ◌++◌, length, map, take, drop, take-append-drop, get_or, refl, sym, ◌∙◌, ap, subst, arith, Option, None, max, append_assoc}
use Rattle.std.specs.Borrow.{Bor}
use Rattle.std.specs.Prelude.{◌==◌}
use Rattle.std.proofs.lemmas.Bool.{eqb-true, eqb-false}
use Rattle.std.proofs.lemmas.List.{append-nil, length-map, length-take-le}
use Rattle.std.proofs.Math.ListN.{drop_of_length-le}
use Rattle.zerotrie_session.specs.declared.answer.Session.{Session}
use Rattle.zerotrie_session.specs.Lines.{lines_of}
use Rattle.zerotrie_session.specs.Commands.{Command, IsCommand}
use Rattle.zerotrie_session.specs.Answers.{State, CanDo, AnswersLines, Answers}
use Rattle.zerotrie_session.specs.Answers.AnswersLines.{end, empty, does, bad}
use Rattle.zerotrie_session.specs.BadLines.{IsBadLine, HasBadLine}
use Rattle.zerotrie_session.specs.declared.command.BadLine.{BadLine}
use Rattle.zerotrie_session.specs.Replies.{bad_line}
use Rattle.zerotrie_session.specs.answer.Sessions.{HasStateIfAny, AfterCommand}

-- lines that are borrowed
abbrev pub texts : List (Bor (List ℕ)) → List (List ℕ)
texts lines = map {B = List ℕ} (λ line. line.now) lines

-- The first i lines are answered: whatever answers the rest answers the input with it.
pub record Answering (input : List ℕ) (lines : List (Bor (List ℕ))) (i : ℕ) (session : Option Session) (output : List ℕ) (status : ℕ) : Type 0 where
  pub held : Option State
  pub holds : HasStateIfAny session held
  pub rest : (more : List ℕ) (last : ℕ) → AnswersLines (i + 1) held (drop i (texts lines)) more last → Answers input (output ++ more) (max status last)

pub answering_none : (input : List ℕ) (lines : List (Bor (List ℕ))) → texts lines ≡ lines_of input → Answering input lines 0 None [] 0
answering_none input lines e = record {
  held = None;
  holds = tt;
  rest = λ more last run. let same : max 0 last ≡ last = omega arith in rw same (subst (λ l. AnswersLines 1 None l more last) e run);
}

-- what is read past the end
abbrev pub no_line : Bor (List ℕ)
no_line = record { ref_ptr = (0, 0); now = [] }

-- the line at i
abbrev pub line_at : List (Bor (List ℕ)) → ℕ → List ℕ
line_at lines i = (get_or lines i no_line).now

-- the lines from the one at i on
pub at_line : (lines : List (Bor (List ℕ))) (i : ℕ) → i < length lines → drop i (texts lines) ≡ line_at lines i ∷ drop (i + 1) (texts lines)
at_line [] i l = absurd (omega arith)
at_line (x ∷ lines) zero l = refl
at_line (x ∷ lines) (suc i) l = let past : suc i + 1 ≡ suc (i + 1) = omega arith in rw past (at_line lines i (omega arith))

pub is_nil : (xs : List ℕ) → true ≡ (length xs == 0) → xs ≡ []
is_nil [] h = refl
is_nil (x ∷ xs) h = absurd (let n : length (x ∷ xs) ≡ 0 = eqb-true (length (x ∷ xs)) 0 (sym h) in omega arith)

pub not_nil : (xs : List ℕ) → false ≡ (length xs == 0) → xs ≢ []
not_nil xs h e = eqb-false (length xs) 0 (sym h) (ap length e)

pub answering_empty : (input : List ℕ) (lines : List (Bor (List ℕ))) (i : ℕ) (session : Option Session) (output : List ℕ) (status : ℕ) → Answering input lines i session output status → i < length lines → line_at lines i ≡ [] → Answering input lines (i + 1) session output status
answering_empty input lines i session output status a l none = record {
  held = a.held;
  holds = a.holds;
  rest = λ more last run. a.rest more last (subst (λ ls. AnswersLines (i + 1) a.held ls more last) (sym (at_line lines i l ∙ ap (λ t. t ∷ drop (i + 1) (texts lines)) none)) (empty run));
}

pub answering_more : (input : List ℕ) (lines : List (Bor (List ℕ))) (i : ℕ) (before after : Option Session) (output new : List ℕ) (status least : ℕ) → Answering input lines i before output status → i < length lines → AfterCommand (line_at lines i) before after output new least → Answering input lines (i + 1) after new (max status least)
answering_more input lines i before after output new status least a l done =
    let r = done a.held a.holds in
    let p = r.2 in record {
      held = p.state;
      holds = p.holds;
      rest = λ more last run.
          let same : new ++ more ≡ output ++ (p.printed ++ more) = ap (λ o. o ++ more) p.output ∙ append_assoc output p.printed more in
          let most : max (max status least) last ≡ max status (max least last) = omega arith in
          rw (same, most) (a.rest (p.printed ++ more) (max least last) (subst (λ ls. AnswersLines (i + 1) a.held ls (p.printed ++ more) (max least last)) (sym (at_line lines i l)) (does r.1 p.does run)));
    }

pub answering_bad : (input : List ℕ) (lines : List (Bor (List ℕ))) (i : ℕ) (session : Option Session) (output new whole : List ℕ) (status : ℕ) → Answering input lines i session output status → i < length lines → line_at lines i ≢ []
    → ((held : Option State) → HasStateIfAny session held → (command : Command) → IsCommand (line_at lines i) command → CanDo held command → ⊥) → new ≡ output → whole ≡ new ++ bad_line (i + 1) → status ≤ 2 → Answers input whole 2
answering_bad input lines i session output new whole status a l some none same more low =
    let most : max status 2 ≡ 2 = omega arith in
    let text : whole ≡ output ++ bad_line (i + 1) = more ∙ ap (λ o. o ++ bad_line (i + 1)) same in
    rw text (rw most at (a.rest (bad_line (i + 1)) 2 (subst (λ ls. AnswersLines (i + 1) a.held ls (bad_line (i + 1)) 2) (sym (at_line lines i l)) (bad some (none a.held a.holds)))))

pub answering_all : (input : List ℕ) (lines : List (Bor (List ℕ))) (i : ℕ) (session : Option Session) (output : List ℕ) (status : ℕ) → Answering input lines i session output status → length lines ≤ i → Answers input output status
answering_all input lines i session output status a l =
    let past : drop i (texts lines) ≡ [] = drop_of_length-le (texts lines) (omega (arith, length-map {B = List ℕ} lines (λ line. line.now))) in
    let most : max status 0 ≡ status = omega arith in
    rw most at (rw (append-nil output) at (a.rest [] 0 (subst (λ ls. AnswersLines (i + 1) a.held ls [] 0) (sym past) end)))

-- the line at i, by its number
pub bad_at : (input : List ℕ) (lines : List (Bor (List ℕ))) (i : ℕ) (why : BadLine) → texts lines ≡ lines_of input → i < length lines → IsBadLine (line_at lines i) why → HasBadLine input (i + 1) why
bad_at input lines i why e l is =
    let long : i ≤ length (texts lines) = omega (arith, length-map {B = List ℕ} lines (λ line. line.now)) in (
      take i (texts lines),
      line_at lines i,
      drop (i + 1) (texts lines),
      sym e ∙ sym (take-append-drop i (texts lines)) ∙ ap (λ rest. take i (texts lines) ++ rest) (at_line lines i l),
      omega (arith, length-take-le i (texts lines) long),
      is,
    )
