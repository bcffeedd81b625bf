mod ComposingLemmas
mod JoiningLemmas
mod LookingLemmas
mod RunLemmas
mod WholeLemmas
