use Rattle.smap_tool.proofs.commands.run.Goals as goal

pub returns-in-Respell-clause-answers : goal.returns-in-Respell-clause-answers
returns-in-Respell-clause-answers g c = rw c.in-Respell.is c.run_respell.ensures.answers

pub returns-in-Check-clause-answers : goal.returns-in-Check-clause-answers
returns-in-Check-clause-answers g c = rw c.in-Check.is c.run_check.ensures.answers

pub returns-in-Tidy-clause-answers : goal.returns-in-Tidy-clause-answers
returns-in-Tidy-clause-answers g c = rw c.in-Tidy.is c.run_tidy.ensures.answers

pub returns-in-Flatten-clause-answers : goal.returns-in-Flatten-clause-answers
returns-in-Flatten-clause-answers g c = rw c.in-Flatten.is c.run_flatten.ensures.answers

pub returns-in-Lookup-clause-answers : goal.returns-in-Lookup-clause-answers
returns-in-Lookup-clause-answers g c = rw c.in-Lookup.is c.run_lookup.ensures.answers

pub returns-in-Translate-clause-answers : goal.returns-in-Translate-clause-answers
returns-in-Translate-clause-answers g c = rw c.in-Translate.is c.run_translate_asked.ensures.answers

pub returns-in-Scripts-clause-answers : goal.returns-in-Scripts-clause-answers
returns-in-Scripts-clause-answers g c = rw c.in-Scripts.is c.run_scripts.ensures.answers

pub returns-in-Compose-clause-answers : goal.returns-in-Compose-clause-answers
returns-in-Compose-clause-answers g c = rw c.in-Compose.is c.run_compose.ensures.answers

pub returns-in-Respell-clause-calls : goal.returns-in-Respell-clause-calls
returns-in-Respell-clause-calls g c = rw c.in-Respell.is c.run_respell.ensures.calls

pub returns-in-Check-clause-calls : goal.returns-in-Check-clause-calls
returns-in-Check-clause-calls g c = rw c.in-Check.is c.run_check.ensures.calls

pub returns-in-Tidy-clause-calls : goal.returns-in-Tidy-clause-calls
returns-in-Tidy-clause-calls g c = rw c.in-Tidy.is c.run_tidy.ensures.calls

pub returns-in-Flatten-clause-calls : goal.returns-in-Flatten-clause-calls
returns-in-Flatten-clause-calls g c = rw c.in-Flatten.is c.run_flatten.ensures.calls

pub returns-in-Lookup-clause-calls : goal.returns-in-Lookup-clause-calls
returns-in-Lookup-clause-calls g c = rw c.in-Lookup.is c.run_lookup.ensures.calls

pub returns-in-Translate-clause-calls : goal.returns-in-Translate-clause-calls
returns-in-Translate-clause-calls g c = rw c.in-Translate.is c.run_translate_asked.ensures.calls

pub returns-in-Scripts-clause-calls : goal.returns-in-Scripts-clause-calls
returns-in-Scripts-clause-calls g c = rw c.in-Scripts.is c.run_scripts.ensures.calls

pub returns-in-Compose-clause-calls : goal.returns-in-Compose-clause-calls
returns-in-Compose-clause-calls g c = rw c.in-Compose.is c.run_compose.ensures.calls
