mod CodeLemmas
mod RunLemmas
mod EndLemmas
