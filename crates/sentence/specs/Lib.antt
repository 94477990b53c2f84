-- The definitions that the contracts of `sentence` cite. Assumes nothing.
pub mod Sentences
pub mod InnerSentences
