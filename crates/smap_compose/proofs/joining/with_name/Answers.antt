use Rattle.std.proofs.Common.{◌∙◌, List, ℕ, Option, Some, ap, arith, length, sym}
use Rattle.std.specs.Prelude.{option_copied, option_map}
use Rattle.std.proofs.lemmas.List.{length-map}
use Rattle.std.proofs.lemmas.Option.{slice_get-map}
use denote.Ref.{Bor}
use Rattle.smap_record.proofs.EqualLemmas.{same_bytes}
use Rattle.smap_compose.specs.Following.{texts_of, with_name}
use Rattle.smap_compose.proofs.JoiningLemmas.{texts-insert_key}
use Rattle.smap_compose.proofs.joining.with_name.Goals as goal

pub returns-then-len-items-clause-refused : goal.returns-then-len-items-clause-refused
returns-then-len-items-clause-refused c = λ same.
    let keys = c.args.names.keys in
    let grown = ap texts_of c.in_ok-number.ensures.keys ∙ texts-insert_key keys c.in-Some.name
    ∙ sym (ap (λ (o : Option (Bor (List ℕ))). with_name (option_copied o) (texts_of keys)) c.in-Some.is) in
    let long = length-map c.insert_full.new.self.keys (λ (t : Bor (List ℕ)). t.now) in
    omega (arith, ap length grown, long, c.len.ensures.len, c.if-len-items.true)

pub returns-clause-names : goal.returns-clause-names
returns-clause-names c =
    let keys = c.args.names.keys in
    ap texts_of c.in_ok-number.ensures.keys ∙ texts-insert_key keys c.in-Some.name
    ∙ sym (ap (λ (o : Option (Bor (List ℕ))). with_name (option_copied o) (texts_of keys)) c.in-Some.is)

pub returns-clause-number : goal.returns-clause-number
returns-clause-number c =
    let text = (λ (t : Bor (List ℕ)). t.now) in
    let stored = c.in_ok-number.ensures.stored in
    slice_get-map text c.insert_full.new.self.keys c.in_ok-number.number ∙ ap (option_map text) stored.1
    ∙ ap Some (sym (same_bytes c.in-Some.name.now stored.0.now stored.2))
    ∙ sym (ap option_copied c.in-Some.is)
