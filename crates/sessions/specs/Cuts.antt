-- The input a byte at a time (Input) prints what its lines print (Printed), however it is cut into reads.
use Rattle.std.specs.Prelude.{ℕ, Option, Some, None, suc, ◌+◌, ◌≤◌, ◌<◌, ◌≡◌, refl, Bool, true, false, eqb, ltb, length, take, replicate}
use Rattle.std.proofs.Common.{sym, ap, ◌∙◌, arith, ltb-true, ltb-false, ne_eqb, length-append, length-take-le, take_all}
use mathlib.Core.List.{List, [], ◌∷◌, ◌++◌, append_assoc, flatten}
use Rattle.std.proofs.lemmas.List.{length-replicate, take-append-le}
use Rattle.types.specs.Kinds.{pick}
use Rattle.memory.specs.World.{World, world}
use Rattle.answers.specs.declared.Call.{Call}
use Rattle.lines.specs.declared.Command.{Command}
use Rattle.lines.specs.declared.Command.TheVariants as command
use Rattle.lines.specs.Commands.{command_of, word_in}
use Rattle.prints.specs.Prints.{more}
use Rattle.prints.specs.Laws.{more_none}
use Rattle.sessions.specs.Sessions.{Session, session, say, fresh_core, cleared, entered, interrupted, returned, act, step}
use Rattle.sessions.specs.Printed.{in_front, lines_of, steps, started, printed}
use Rattle.sessions.specs.Input.{Under, under, kept, take1, taken_all, finished}

-- ---- cuts

-- bytes taken in two parts are the bytes taken at once: how the input is cut into reads does not matter
pub cut : (u : Under) (xs ys : List ℕ) → taken_all u (xs ++ ys) ≡ taken_all (taken_all u xs) ys
unfolding taken_all
cut u [] ys = refl
cut u (b ∷ bs) ys = cut (take1 u b) bs ys

-- ---- append only

-- a session with p before what it printed
abbrev pub onto : List ℕ → Session → Session
onto p s = session s.after (more p s.printed)

-- the same in the middle of a line
abbrev pub onto_under : List ℕ → Under → Under
onto_under p u = under (onto p u.session) u.line

more_assoc : (p s t : List ℕ) → more (more p s) t ≡ more p (more s t)
unfolding more
more_assoc p s t = append_assoc p s t

say_onto : (p : List ℕ) (s : Session) (w : World) (t : List ℕ) → say (onto p s) w t ≡ onto p (say s w t)
say_onto p s w t = ap (λ (bs : List ℕ). session w bs) (more_assoc p s.printed t)

entered_onto : (p : List ℕ) (s : Session) (c : Call) → entered (onto p s) c ≡ onto p (entered s c)
unfolding entered
entered_onto p s c = say_onto p s _ _

-- a command prints after what is printed, and does not look at it
act_onto : (p : List ℕ) (s : Session) (c : Option Command) → act (onto p s) c ≡ onto p (act s c)
unfolding act interrupted returned
act_onto p s None = say_onto p s _ _
act_onto p s (Some (command.Kind k)) = refl
act_onto p s (Some (command.Pc v)) = refl
act_onto p s (Some (command.Ppc v)) = refl
act_onto p s (Some (command.A7 v)) = refl
act_onto p s (Some (command.Long a v)) = say_onto p s _ _
act_onto p s (Some (command.Exc v)) = entered_onto p s _
act_onto p s (Some (command.Trap n)) = entered_onto p s _
act_onto p s (Some (command.Irq n)) = entered_onto p (session _ s.printed) _
act_onto p s (Some (command.Walk n)) = say_onto p s _ _
act_onto p s (Some command.Ret) = say_onto p s _ _

-- so does a line
pub step_onto : (p : List ℕ) (s : Session) (l : List ℕ) → step (onto p s) l ≡ onto p (step s l)
unfolding step
step_onto p s l = act_onto p s (command_of l)

-- and many
pub steps_onto : (p : List ℕ) (s : Session) (ls : List (List ℕ)) → steps (onto p s) ls ≡ onto p (steps s ls)
unfolding steps
steps_onto p s [] = refl
steps_onto p s (l ∷ ls) = ap (λ (r : Session). steps r ls) (step_onto p s l) ∙ steps_onto p (step s l) ls

-- a line on a session that has printed p prints, after p, what it prints on one that has printed nothing
pub onward : (w : World) (p l : List ℕ) → step (session w p) l ≡ onto p (step (session w []) l)
onward w p l = ap (λ (bs : List ℕ). step (session w bs) l) (sym (more_none p)) ∙ step_onto p (session w []) l

take1_onto : (p : List ℕ) (u : Under) (b : ℕ) → take1 (onto_under p u) b ≡ onto_under p (take1 u b)
unfolding take1
take1_onto p u b = go (eqb b 10)
  where
    go : (t : Bool) →
        pick t (under (step (onto p u.session) u.line) []) (under (onto p u.session) (kept u.line b))
        ≡ onto_under p (pick t (under (step u.session u.line) []) (under u.session (kept u.line b)))
    go true = ap (λ (s : Session). under s []) (step_onto p u.session u.line)
    go false = refl

-- so do bytes of the input
pub take_all_onto : (p : List ℕ) (u : Under) (bs : List ℕ) → taken_all (onto_under p u) bs ≡ onto_under p (taken_all u bs)
unfolding taken_all
take_all_onto p u [] = refl
take_all_onto p u (b ∷ bs) = ap (λ (v : Under). taken_all v bs) (take1_onto p u b) ∙ take_all_onto p (take1 u b) bs

-- and the end of the input
pub finished_onto : (p : List ℕ) (u : Under) → finished (onto_under p u) ≡ onto p (finished u)
unfolding finished
finished_onto p u = go (eqb (length u.line) 0)
  where
    go : (t : Bool) →
        pick t (onto p u.session) (step (onto p u.session) u.line) ≡ onto p (pick t u.session (step u.session u.line))
    go true = refl
    go false = step_onto p u.session u.line

-- the rest of an input prints, after what is printed, what it prints on a session that has printed nothing
pub rest_onward : (u : Under) (bs : List ℕ) →
    finished (taken_all u bs) ≡ onto u.session.printed (finished (taken_all (under (session u.session.after []) u.line) bs))
rest_onward u bs =
    let v : Under = under (session u.session.after []) u.line in
    let p : List ℕ = u.session.printed in
    ap (λ (q : List ℕ). finished (taken_all (under (session u.session.after q) u.line) bs)) (sym (more_none p))
    ∙ ap finished (take_all_onto p v bs) ∙ finished_onto p (taken_all v bs)

-- ---- by lines

-- of a line over 80 bytes the first 81 say enough: it is wrong
command_kept : (l : List ℕ) → command_of (take 81 l) ≡ command_of l
unfolding command_of
command_kept l = go (ltb 80 (length l)) refl
  where
    go : (t : Bool) → ltb 80 (length l) ≡ t →
        pick (ltb 80 (length (take 81 l))) None (word_in (take 81 l)) ≡ pick (ltb 80 (length l)) None (word_in l)
    go true e = rw (e, length-take-le 81 l (ltb-true 80 (length l) e))
    go false e = rw (take_all 81 l (omega (arith, ltb-false 80 (length l) e)))

-- so the 81 bytes that are kept do what the line does
pub step_kept : (s : Session) (l : List ℕ) → step s (take 81 l) ≡ step s l
unfolding step
step_kept s l = ap (λ (c : Option Command). act s c) (command_kept l)

-- the line that is kept is the beginning of the line
kept_take : (l : List ℕ) (b : ℕ) → kept (take 81 l) b ≡ take 81 (l ++ (b ∷ []))
unfolding kept
kept_take l b = go (ltb (length l) 81) refl
  where
    go : (t : Bool) → ltb (length l) 81 ≡ t →
        pick (ltb (length (take 81 l)) 81) (take 81 l ++ (b ∷ [])) (take 81 l) ≡ take 81 (l ++ (b ∷ []))
    go true e =
        let h : length l < 81 = ltb-true (length l) 81 e in
        let n : length (l ++ (b ∷ [])) ≡ length l + 1 = length-append l (b ∷ []) in
        rw (take_all 81 l (omega (arith, h)), e, take_all 81 (l ++ (b ∷ [])) (omega (arith, h, n)))
    go false e =
        let h : 81 ≤ length l = ltb-false (length l) 81 e in
        rw (length-take-le 81 l h, take-append-le 81 l (b ∷ []) h)

-- bytes in front of the first line
unfoldable pub all_in_front : List ℕ → List (List ℕ) → List (List ℕ)
all_in_front [] ls = ls
all_in_front (b ∷ l) ls = in_front b (all_in_front l ls)

in_front_feed : (l : List ℕ) (ls : List (List ℕ)) → all_in_front l ([] ∷ ls) ≡ l ∷ ls
unfolding all_in_front in_front
in_front_feed [] ls = refl
in_front_feed (b ∷ l) ls = ap (λ (ms : List (List ℕ)). in_front b ms) (in_front_feed l ls)

in_front_byte : (l : List ℕ) (b : ℕ) (ls : List (List ℕ)) → all_in_front (l ++ (b ∷ [])) ls ≡ all_in_front l (in_front b ls)
unfolding all_in_front
in_front_byte [] b ls = refl
in_front_byte (a ∷ l) b ls = ap (λ (ms : List (List ℕ)). in_front a ms) (in_front_byte l b ls)

in_front_end : (a : ℕ) (l : List ℕ) → all_in_front (a ∷ l) [] ≡ (a ∷ l) ∷ []
unfolding all_in_front in_front
in_front_end a [] = refl
in_front_end a (b ∷ l) = ap (λ (ms : List (List ℕ)). in_front a ms) (in_front_end b l)

-- the end of the input ends a line that has bytes
finished_line : (s : Session) (a : ℕ) (l : List ℕ) → finished (under s (a ∷ l)) ≡ step s (a ∷ l)
unfolding finished
finished_line s a l = ap (λ (t : Bool). pick t s (step s (a ∷ l))) (ne_eqb (suc (length l)) 0 (λ e. omega arith))

end_line : (s : Session) (l : List ℕ) → finished (under s (take 81 l)) ≡ steps s (all_in_front l [])
unfolding finished steps all_in_front
end_line s [] = refl
end_line s (a ∷ l) = finished_line s a (take 80 l) ∙ step_kept s (a ∷ l) ∙ ap (λ (ls : List (List ℕ)). steps s ls) (sym (in_front_end a l))

-- a session in the middle of the line l goes on as one that has l before the lines that come
pub lines_under : (s : Session) (l bs : List ℕ) → finished (taken_all (under s (take 81 l)) bs) ≡ steps s (all_in_front l (lines_of bs))
unfolding taken_all take1 lines_of steps all_in_front
lines_under s l [] = end_line s l
lines_under s l (b ∷ bs) = go (eqb b 10) (lines_under (step s l) [] bs) (lines_under s (l ++ (b ∷ [])) bs)
  where
    go : (t : Bool) →
        finished (taken_all (under (step s l) []) bs) ≡ steps (step s l) (lines_of bs) →
        finished (taken_all (under s (take 81 (l ++ (b ∷ [])))) bs) ≡ steps s (all_in_front (l ++ (b ∷ [])) (lines_of bs)) →
        finished (taken_all (pick t (under (step s (take 81 l)) []) (under s (kept (take 81 l) b))) bs)
        ≡ steps s (all_in_front l (pick t ([] ∷ lines_of bs) (in_front b (lines_of bs))))
    go true f g =
        ap (λ (r : Session). finished (taken_all (under r []) bs)) (step_kept s l) ∙ f
        ∙ ap (λ (ls : List (List ℕ)). steps s ls) (sym (in_front_feed l (lines_of bs)))
    go false f g =
        ap (λ (k : List ℕ). finished (taken_all (under s k) bs)) (kept_take l b) ∙ g
        ∙ ap (λ (ls : List (List ℕ)). steps s ls) (in_front_byte l b (lines_of bs))

-- the bytes of an input, one at a time, print what its lines print
pub by_lines : (input : List ℕ) → (finished (taken_all (under started []) input)).printed ≡ printed input
unfolding printed all_in_front
by_lines input = ap (λ (s : Session). s.printed) (lines_under started [] input)

-- ---- reads

-- what a part of the input makes of a session that has printed nothing, in the middle of the line l
abbrev pub taken : World → List ℕ → List ℕ → Under
taken w l part = taken_all (under (session w []) l) part

-- what is written for an input that comes in parts: for each the bytes that it prints, at the end those of a line that is not ended;
-- world and line go on from part to part
unfoldable pub answers : World → List ℕ → List (List ℕ) → List ℕ
answers w l [] = (finished (under (session w []) l)).printed
answers w l (part ∷ parts) = (taken w l part).session.printed ++ answers (taken w l part).session.after (taken w l part).line parts

-- parts print what they print as one
parts_joined : (w : World) (l : List ℕ) (parts : List (List ℕ)) → answers w l parts ≡ (finished (taken w l (flatten parts))).printed
unfolding answers flatten taken_all more
parts_joined w l [] = refl
parts_joined w l (part ∷ parts) =
    go (taken w l part) (parts_joined (taken w l part).session.after (taken w l part).line parts) ∙ ap (λ (u : Under). (finished u).printed) (sym (cut _ part (flatten parts)))
  where
    go : (u : Under) →
        answers u.session.after u.line parts ≡ (finished (taken u.session.after u.line (flatten parts))).printed →
        u.session.printed ++ answers u.session.after u.line parts ≡ (finished (taken_all u (flatten parts))).printed
    go u e = ap (λ (bs : List ℕ). u.session.printed ++ bs) e ∙ sym (ap (λ (r : Session). r.printed) (rest_onward u (flatten parts)))

-- however an input is cut into parts, what is written for them is `printed` of the whole
pub read_by_read : (parts : List (List ℕ)) → answers started.after [] parts ≡ printed (flatten parts)
unfolding started
read_by_read parts = parts_joined started.after [] parts ∙ by_lines (flatten parts)

-- ---- `kind`

-- "Before any `kind`, kind 1": a session that begins with it is as it was
pub kind_1 : (l : List ℕ) → command_of l ≡ Some (command.Kind 1) → step started l ≡ started
unfolding step act started cleared
kind_1 l e =
    ap (λ (c : Option Command). act started c) e
    ∙ ap (λ (n : ℕ). session (world (fresh_core 1) (replicate n 0) (replicate 192 0)) []) (length-replicate {A = ℕ} 65536 0)
