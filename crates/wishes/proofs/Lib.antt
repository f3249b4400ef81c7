pub mod WishLaws
pub mod WishTheorems
pub mod RaisingLaws
pub mod LeapLaws
