-- Window after window is written.
use Rattle.std.proofs.Common.{◌≡◌, ℕ, suc, ◌+◌, ◌-◌, ◌^◌, ◌<◌, List, [], ◌∷◌, ◌++◌, length, refl, sym, ◌∙◌, ap, subst, arith, map, append_assoc, length-append, reverse}
use Rattle.std.specs.List.{concat}
use Rattle.std.proofs.lemmas.List.{append-nil, map-append}
use Rattle.std.proofs.lemmas.List.Sums.{sum_by-cons}
use Rattle.zerotrie_base.specs.Kind.{Kind}
use Rattle.zerotrie_base.specs.Maps.{Pairs, map_of}
use Rattle.zerotrie_base.specs.Branches.{total}
use Rattle.zerotrie_base.specs.Canonical.{size_of}
use Rattle.zerotrie_base.specs.Texts.{Means}
use Rattle.zerotrie_base.proofs.CallerLemmas.{same-map}
use Rattle.zerotrie_build.specs.declared.windows.Window.{Window}
use Rattle.zerotrie_build.specs.declared.branch.Position.{Position}
use Rattle.zerotrie_build.specs.declared.branch.PendingWindow.{PendingWindow}
use Rattle.zerotrie_build.specs.declared.branch.Next.{Next}
use Rattle.zerotrie_build.specs.declared.branch.Next.TheVariants.{Go, Text}
use Rattle.zerotrie_build.specs.passes.Windows.{window}
use Rattle.zerotrie_build.specs.passes.Measured.{IsMeasured, sizes_of, whole_window}
use Rattle.zerotrie_build.specs.passes.Written.{Written}
use Rattle.zerotrie_build.specs.passes.Writes.{HasRoom, NodesWritten, WrittenTo}
use Rattle.zerotrie_build.specs.passes.Writing.{Listed, Texts, position_at, text_of, HasSlotsTo, IsPending}
use Rattle.zerotrie_build.specs.passes.Writing.IsPending.{done, go as to_go, text as to_text}
use Rattle.zerotrie_build.proofs.WriteLemmas.Puts.{grows, total_append}
use Rattle.zerotrie_build.proofs.WriteLemmas.Slots.{window_same}
use Rattle.zerotrie_build.proofs.WindowLemmas.Windows.{cut_whole}

record Split (kind : Kind) (all : Pairs) (xs ys : List Window) (texts : List (List ℕ)) : Type 0 where
  front : List (List ℕ)
  back : List (List ℕ)
  is : texts ≡ front ++ back
  front_texts : Texts kind all xs front
  back_texts : Texts kind all ys back

split : (kind : Kind) (all : Pairs) (xs ys : List Window) (texts : List (List ℕ)) → Texts kind all (xs ++ ys) texts → Split kind all xs ys texts
split kind all [] ys texts h = record { front = []; back = texts; is = refl; front_texts = tt; back_texts = h }
split kind all (x ∷ xs) ys [] h = absurd h
split kind all (x ∷ xs) ys (t ∷ ts) h = let r = split kind all xs ys ts h.1 in record { front = t ∷ r.front; back = r.back; is = ap (λ z. t ∷ z) r.is; front_texts = (h.0, r.front_texts); back_texts = r.back_texts }

concat_append : (xs ys : List (List ℕ)) → concat (xs ++ ys) ≡ concat xs ++ concat ys
concat_append [] ys = refl
concat_append (x ∷ xs) ys = ap (λ z. x ++ z) (concat_append xs ys) ∙ sym (append_assoc x (concat xs) (concat ys))

-- all items are written first
measured_to : {kind : Kind} {all : Pairs} {slots : List ℕ} {len : ℕ} → IsMeasured kind all slots len → HasSlotsTo kind all slots 0 (length slots) (whole_window all)
measured_to {slots = slots} m = record { below = slots; more = []; kept = m.slots_are; slots_are = sym (append-nil slots); end_is = omega arith }

pub leads_start : {kind : Kind} {all : Pairs} {slots : List ℕ} {len : ℕ} → IsMeasured kind all slots len → IsPending kind all slots (position_at 0 0) (text_of (whole_window all) ∷ []) (whole_window all ∷ [])
leads_start m = to_text (measured_to m) done

pub first_pushed : (all : Pairs) (one : List Next) (to : ℕ) → one ≡ Text (record { to = to; depth = 0 }) ∷ [] → to ≡ length all → text_of (whole_window all) ∷ [] ≡ reverse one
first_pushed all one to pushed is = sym (ap reverse pushed ∙ ap (λ n. Text (record { to = n; depth = 0 }) ∷ []) is)

pub left_start : {kind : Kind} {all : Pairs} {slots : List ℕ} {len : ℕ} (start : Written) → IsMeasured kind all slots len → start.bytes ≡ [] → start.len ≡ len → WrittenTo kind all start (whole_window all ∷ [])
left_start {kind = kind} {all = all} {len = len} start m none room = record {
  sized = (let e = sum_by-cons (λ n. n) (size_of kind (window all (whole_window all))) [] in let l = m.len_is in let w = ap (size_of kind) (cut_whole all) in let n = ap length none in omega arith);
  completes = λ texts h. subst (λ x. Listed kind (x ++ concat texts) all) (sym none) (texts_whole texts h);
}
  where
    texts_whole : (texts : List (List ℕ)) → Texts kind all (whole_window all ∷ []) texts → Listed kind (concat texts) all
    texts_whole [] h = absurd h
    texts_whole (t ∷ u ∷ ts) h = absurd (h.1)
    texts_whole (t ∷ []) h = subst (λ x. Listed kind x all) (sym (append-nil t)) (subst (Listed kind t) (cut_whole all) h.0)

pub left_room : {kind : Kind} {all : Pairs} {now : Written} {w : Window} {ws : List Window} → WrittenTo kind all now (w ∷ ws) → HasRoom now (size_of kind (window all w))
left_room {kind = kind} {all = all} {w = w} {ws = ws} l =
    let t = sum_by-cons (λ n. n) (size_of kind (window all w)) (sizes_of kind all ws) in
    let r = l.sized in omega arith

-- nothing is left to be written
pub left_end : (kind : Kind) (all : Pairs) (now : Written) (ws : List Window) → ws ≡ [] → length now.bytes < 2 ^ 64 → WrittenTo kind all now ws → Means kind now.bytes (map_of all)
left_end kind all now [] e small l =
    let done = subst (λ x. Listed kind x all) (append-nil now.bytes) (l.completes [] tt) in
    record {
      short = small;
      pairs = done.listed;
      lists = done.lists;
      is = sym (same-map done.listed all done.same);
    }
left_end kind all now (w ∷ ws) e small l = absurd (cc)

sizes_append : (kind : Kind) (all : Pairs) (xs ys : List Window) → sizes_of kind all (xs ++ ys) ≡ sizes_of kind all xs ++ sizes_of kind all ys
sizes_append kind all xs ys = ap (map (size_of kind)) (map-append (window all) xs ys) ∙ map-append (size_of kind) (map (window all) xs) (map (window all) ys)

-- the next window is written
pub left_more : {kind : Kind} {all : Pairs} {slots : List ℕ} {slot : ℕ} {old new : Written} {w : Window} {next : List Next} {ws : List Window}
    → WrittenTo kind all old (w ∷ ws) → (p : NodesWritten kind all slots slot w next old new) → WrittenTo kind all new (p.targets ++ ws)
left_more {kind = kind} {all = all} {old = old} {w = w} {ws = ws} l p =
    let split_len = ap total (sizes_append kind all p.targets ws) ∙ total_append (sizes_of kind all p.targets) (sizes_of kind all ws) in
    let before = sum_by-cons (λ x. x) (size_of kind (window all w)) (sizes_of kind all ws) in
    let sized = p.sized in
    record {
      sized = (let r = l.sized in let a = grows p.puts in let b = p.puts.same in omega arith);
      completes = λ texts h.
          (let s = split kind all p.targets ws texts h in
          let one = l.completes ((p.front ++ concat s.front) ∷ s.back) (p.lists s.front s.front_texts, s.back_texts) in
          subst (λ x. Listed kind x all)
          (ap (λ x. old.bytes ++ x) (append_assoc p.front (concat s.front) (concat s.back) ∙ ap (λ x. p.front ++ x) (sym (concat_append s.front s.back) ∙ ap concat (sym s.is)))
          ∙ sym (append_assoc old.bytes p.front (concat texts)) ∙ ap (λ x. x ++ concat texts) (sym p.puts.is)) one);
    }

-- and less is left
pub left_less : {kind : Kind} {all : Pairs} {slots : List ℕ} {slot : ℕ} {old new : Written} {w : Window} {next : List Next} {ws : List Window} (rest : List Next)
    → WrittenTo kind all old (w ∷ ws) → NodesWritten kind all slots slot w next old new
    → (new.len - length new.bytes) + length (next ++ rest) < (old.len - length old.bytes) + suc (length rest)
left_less {next = next} rest l p =
    let room = left_room l in
    let a = grows p.puts in let s = p.puts.same in let z = p.sized in let m = p.many in
    let n = length-append next rest in
    omega arith

-- what is written next, by what stands first
pub leads_none : {kind : Kind} {all : Pairs} {slots : List ℕ} {at : Position} {next : List Next} {ws : List Window} → IsPending kind all slots at next ws → next ≡ [] → ws ≡ []
leads_none done e = refl
leads_none (to_go l) e = absurd (cc)
leads_none (to_text k l) e = absurd (cc)

pub leads_go : {kind : Kind} {all : Pairs} {slots : List ℕ} {at : Position} {next : List Next} {ws : List Window} (there : Position) (rest : List Next) → IsPending kind all slots at next ws → next ≡ Go there ∷ rest → IsPending kind all slots there rest ws
leads_go there rest done e = absurd (cc)
leads_go {kind = kind} {all = all} {slots = slots} {ws = ws} there rest (to_go {to = to} {next = next} l) e =
    let same : to ≡ there = cc in
    let more : next ≡ rest = cc in
    subst (λ x. IsPending kind all slots x rest ws) same (subst (λ x. IsPending kind all slots to x ws) more l)
leads_go there rest (to_text k l) e = absurd (cc)

pub record TextLeads (kind : Kind) (all : Pairs) (slots : List ℕ) (slot : ℕ) (w : Window) (rest : List Next) (ws : List Window) : Type 0 where
  pub end : ℕ
  pub kept : HasSlotsTo kind all slots slot end w
  pub behind : List Window
  pub leads : IsPending kind all slots (position_at w.to end) rest behind
  pub is : ws ≡ w ∷ behind

pub leads_text : {kind : Kind} {all : Pairs} {slots : List ℕ} {at : Position} {next : List Next} {ws : List Window} (next_window : PendingWindow) (rest : List Next) → IsPending kind all slots at next ws → next ≡ Text next_window ∷ rest
    → TextLeads kind all slots at.slot (record { from = at.from; to = next_window.to; depth = next_window.depth }) rest ws
leads_text next_window rest done e = absurd (cc)
leads_text next_window rest (to_go l) e = absurd (cc)
leads_text {kind = kind} {all = all} {slots = slots} next_window rest (to_text {slot = slot} {end = end} {w = v} {next = next} {ws = ws} k l) e =
    let here : PendingWindow = record { to = v.to; depth = v.depth } in
    let first : here ≡ next_window = cc in
    let more : next ≡ rest = cc in
    let w : Window = record { from = v.from; to = next_window.to; depth = next_window.depth } in
    let same : v ≡ w = window_same v w refl (ap (λ p. p.to) first) (ap (λ p. p.depth) first) in
    record {
      end = end;
      kept = subst (λ x. HasSlotsTo kind all slots slot end x) same k;
      behind = ws;
      leads = subst (λ x. IsPending kind all slots (position_at x.to end) rest ws) same (subst (λ x. IsPending kind all slots (position_at v.to end) x ws) more l);
      is = ap (λ x. x ∷ ws) same;
    }
