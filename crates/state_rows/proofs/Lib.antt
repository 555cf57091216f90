mod AttachmentRows
mod TransitionRows
