-- What is written so far, and what is owed for the rest of the input.
use Rattle.std.specs.Prelude.{◌≡◌, refl, ℕ, ◌-◌, List, [], ◌∷◌, ◌++◌, Option, Some, None, Result, Ok, Err, OnOk, length, take, drop, replicate, ⊤}
use Rattle.std.proofs.Common.{sym, ap, subst, ◌∙◌, arith, append-nil, append_assoc, take_all, length-drop}
use Rattle.std.proofs.lemmas.List.{take-append-drop}
use Rattle.std.specs.Io.KnownBytes.{Appends, Consumes, IsAtEnd}
use Rattle.memory.specs.declared.Core.{Core}
use Rattle.memory.specs.World.{world}
use Rattle.prints.specs.Prints.{more}
use Rattle.prints.specs.Laws.{more_none}
use Rattle.sessions.specs.Sessions.{Session, session, fresh_core}
use Rattle.sessions.specs.Input.{Under, under, taken_all, finished}
use Rattle.sessions.specs.Cuts.{cut, onto_under, take_all_onto, rest_onward}
use Rattle.sessions.specs.Printed.{started}
use Rattle.session.specs.Plays.{block, owed, Takes, Plays, Prints, owed_at_start}

appends_none : (c : Option (List ℕ)) → Appends c c []
appends_none None = tt
appends_none (Some xs) = sym (append-nil xs)

appends_more : (a b c : Option (List ℕ)) (p q : List ℕ) → Appends a b p → Appends b c q → Appends a c (p ++ q)
appends_more None b c p q h k = tt
appends_more (Some xs) None c p q h k = absurd h
appends_more (Some xs) (Some ys) None p q h k = absurd k
appends_more (Some xs) (Some ys) (Some zs) p q h k = k ∙ ap (λ (t : List ℕ). t ++ q) h ∙ append_assoc xs p q

-- the first k bytes, and the rest on the session that they leave
block_turn : (u v : Under) (bs : List ℕ) (k : ℕ) → v ≡ block u (take k bs) → block u bs ≡ onto_under v.session.printed (block v (drop k bs))
block_turn u v bs k e =
    ap (λ (x : List ℕ). block u x) (sym (take-append-drop k bs))
    ∙ cut (under (session u.session.after []) u.line) (take k bs) (drop k bs)
    ∙ ap (λ (x : Under). taken_all x (drop k bs)) (sym e)
    ∙ ap (λ (p : List ℕ). taken_all (under (session v.session.after p) v.line) (drop k bs)) (sym (more_none v.session.printed))
    ∙ take_all_onto v.session.printed (under (session v.session.after []) v.line) (drop k bs)

-- of the bytes bs the session u has come to v, with `rest` to take
pub record Part (u : Under) (bs : List ℕ) (v : Under) (rest : List ℕ) (old new : Option (List ℕ)) : Type 0 where
  pub said : List ℕ
  pub written : Appends old new said
  pub printed : said ++ (block v rest).session.printed ≡ (block u bs).session.printed
  pub after : (block v rest).session.after ≡ (block u bs).session.after
  pub line : (block v rest).line ≡ (block u bs).line

pub part_start : (u : Under) (bs : List ℕ) (c : Option (List ℕ)) → Part u bs u bs c c
part_start u bs c = record { said = []; written = appends_none c; printed = refl; after = refl; line = refl }

part_drop : (u v w : Under) (bs rest : List ℕ) (k : ℕ) (old mid new : Option (List ℕ)) → Part u bs v rest old mid → w ≡ block v (take k rest)
    → Appends mid new w.session.printed → Part u bs w (drop k rest) old new
unfolding more
part_drop u v w bs rest k old mid new p e h =
    let t : block v rest ≡ onto_under w.session.printed (block w (drop k rest)) = block_turn v w rest k e in
    record {
      said = p.said ++ w.session.printed;
      written = appends_more old mid new p.said w.session.printed p.written h;
      printed =
          append_assoc p.said w.session.printed (block w (drop k rest)).session.printed
          ∙ ap (λ (x : List ℕ). p.said ++ x) (sym (ap (λ (x : Under). x.session.printed) t)) ∙ p.printed;
      after = sym (ap (λ (x : Under). x.session.after) t) ∙ p.after;
      line = sym (ap (λ (x : Under). x.line) t) ∙ p.line;
    }

pub part_goes : (u v w : Under) (bs rest out : List ℕ) (k : ℕ) (old mid new : Option (List ℕ)) → Part u bs v rest old mid → w ≡ block v (take k rest)
    → out ≡ w.session.printed → Appends mid new out → Part u bs w (take (length rest - k) (drop k rest)) old new
part_goes u v w bs rest out k old mid new p e f h =
    let q : take (length rest - k) (drop k rest) ≡ drop k rest = take_all (length rest - k) (drop k rest) (rw length-drop (omega arith)) in
    subst (λ (x : List ℕ). Part u bs w x old new) (sym q) (part_drop u v w bs rest k old mid new p e (subst (Appends mid new) f h))

pub part_ends : (u v : Under) (bs rest : List ℕ) (old new : Option (List ℕ)) → length rest ≡ 0 → Part u bs v rest old new → Takes u bs v old new
unfolding taken_all
part_ends u v bs [] old new z p = (subst (Appends old new) (sym (append-nil p.said) ∙ p.printed) p.written, p.after, p.line)
part_ends u v bs (b ∷ rest) old new z p = absurd (omega arith)

-- what is owed for the whole input is what is written and what is owed for its rest
abbrev pub Owes : Under → Option (List ℕ) → Under → Option (List ℕ) → List ℕ → Type 0
Owes u None v known said = ⊤
Owes u (Some xs) v None said = ⊥
Owes u (Some xs) v (Some ys) said = owed u xs ≡ said ++ owed v ys

pub record Played (u : Under) (all : Option (List ℕ)) (v : Under) (known : Option (List ℕ)) (old new : Option (List ℕ)) : Type 0 where
  pub said : List ℕ
  pub written : Appends old new said
  pub owes : Owes u all v known said

pub played_start : (u : Under) (known c : Option (List ℕ)) → Played u known u known c c
played_start u known c = record { said = []; written = appends_none c; owes = go known }
  where
    go : (k : Option (List ℕ)) → Owes u k u k []
    go None = tt
    go (Some xs) = refl

-- what is owed before a block is what the block prints and what is owed after it
owed_turn : (v w : Under) (bs zs : List ℕ) → w.session.after ≡ (block v bs).session.after → w.line ≡ (block v bs).line → owed v (bs ++ zs) ≡ (block v bs).session.printed ++ owed w zs
unfolding more
owed_turn v w bs zs d e =
    ap (λ (x : Under). (finished x).printed) (cut (under (session v.session.after []) v.line) bs zs)
    ∙ ap (λ (x : Session). x.printed) (rest_onward (block v bs) zs)
    ∙ (λ i. (block v bs).session.printed ++ (finished (taken_all (under (session (sym d i) []) (sym e i)) zs)).printed)

owes_turn : (u v w : Under) (all r r2 : Option (List ℕ)) (said bs : List ℕ) → Owes u all v r said → Consumes r r2 bs → w.session.after ≡ (block v bs).session.after
    → w.line ≡ (block v bs).line → Owes u all w r2 (said ++ (block v bs).session.printed)
owes_turn u v w None r r2 said bs o c d e = tt
owes_turn u v w (Some xs) None r2 said bs o c d e = absurd o
owes_turn u v w (Some xs) (Some ys) None said bs o c d e = absurd c
owes_turn u v w (Some xs) (Some ys) (Some zs) said bs o c d e =
    o ∙ ap (λ (x : List ℕ). said ++ owed v x) c ∙ ap (λ (x : List ℕ). said ++ x) (owed_turn v w bs zs d e)
    ∙ sym (append_assoc said (block v bs).session.printed (owed w zs))

pub played_goes : (u v w : Under) (all r r2 old mid new : Option (List ℕ)) (bs : List ℕ) → Played u all v r old mid → Consumes r r2 bs → Takes v bs w mid new → Played u all w r2 old new
played_goes u v w all r r2 old mid new bs p c t =
    record {
      said = p.said ++ (block v bs).session.printed;
      written = appends_more old mid new p.said (block v bs).session.printed p.written t.0;
      owes = owes_turn u v w all r r2 p.said bs p.owes c t.1 t.2;
    }

-- the end of the input
owes_end : (u v : Under) (all r r2 : Option (List ℕ)) (said : List ℕ) (old new : Option (List ℕ)) → Owes u all v r said → Consumes r r2 [] → IsAtEnd r2
    → Appends old new (said ++ owed v []) → Plays u all old new
owes_end u v None r r2 said old new o c z h = tt
owes_end u v (Some xs) None r2 said old new o c z h = absurd o
owes_end u v (Some xs) (Some ys) None said old new o c z h = absurd c
owes_end u v (Some xs) (Some ys) (Some zs) said old new o c z h =
    subst (Appends old new) (ap (λ (x : List ℕ). said ++ owed v x) (sym (c ∙ z)) ∙ sym o) h

pub played_ends : (u v : Under) (all r r2 old mid new : Option (List ℕ)) (bs out : List ℕ) (q : Session) → Played u all v r old mid → bs ≡ [] → Consumes r r2 bs → IsAtEnd r2
    → q ≡ finished (under (session v.session.after []) v.line) → out ≡ q.printed → Appends mid new out → Plays u all old new
unfolding taken_all
played_ends u v all r r2 old mid new bs out q p b c z e f h =
    owes_end u v all r r2 p.said old new p.owes (subst (Consumes r r2) b c) z
    (appends_more old mid new p.said (owed v []) p.written (subst (Appends mid new) (f ∙ ap (λ (x : Session). x.printed) e) h))

pub on_ok : {A E P Q : Type 0} (r : Result A E) → OnOk r P → (P → Q) → OnOk r Q
on_ok (Ok x) h f = f h
on_ok (Err x) h f = tt

-- a session that has just started
pub at_start : (m : Core) (out line : List ℕ) → m ≡ fresh_core 1 → out ≡ [] → line ≡ [] → under (session (world m (replicate 65536 0) (replicate 192 0)) out) line ≡ under started []
unfolding started
at_start m out line e f g = rw (e, f, g) refl

pub prints : (u : Under) (known old new : Option (List ℕ)) → u ≡ under started [] → Plays u known old new → Prints known old new
prints u None old new e h = tt
prints u (Some xs) old new e h = subst (Appends old new) (ap (λ (v : Under). owed v xs) e ∙ owed_at_start xs) h
