mod AloneLemmas
mod LineLemmas
